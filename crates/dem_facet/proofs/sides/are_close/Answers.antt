use Rattle.std.proofs.Common.{arith}
use Rattle.std.proofs.lemmas.Int.{to_z-of_z}
use Rattle.dem_model.specs.Facet.{are_close}
use Rattle.dem_facet.proofs.sides.are_close.Goals as goal

pub returns : goal.returns
unfolding are_close
returns c = grind (arith, to_z-of_z)
