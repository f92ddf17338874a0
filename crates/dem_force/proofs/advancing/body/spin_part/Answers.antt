use Rattle.std.proofs.Common.{arith}
use Rattle.std.proofs.lemmas.Int.{to_z-of_z}
use Rattle.dem_model.specs.Advance.{spin_component}
use Rattle.dem_force.proofs.advancing.body.spin_part.Goals as goal

pub returns-clause-value : goal.returns-clause-value
unfolding spin_component
returns-clause-value c = grind (arith, to_z-of_z)
