use Rattle.std.proofs.Common.{arith}
use Rattle.std.proofs.lemmas.Int.{to_z-of_z}
use Rattle.dem_model.specs.Facet.{past_bc}
use Rattle.dem_facet.proofs.past.beyond_bc.Goals as goal

pub returns : goal.returns
unfolding past_bc
returns c = grind (arith, to_z-of_z)
