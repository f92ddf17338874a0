use Rattle.std.proofs.Common.{arith}
use Rattle.std.proofs.lemmas.Int.{to_z-of_z}
use Rattle.dem_model.specs.Facet.{facet_reaches}
use Rattle.dem_facet.proofs.reach.reaches.Goals as goal

pub returns : goal.returns
unfolding facet_reaches
returns c = grind (arith, to_z-of_z)
