use Rattle.dem_facet.proofs.CoverFacts.{covers}
use Rattle.dem_facet.proofs.covering.facet_covers.Goals as goal

pub returns : goal.returns
returns c = covers
