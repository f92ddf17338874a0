use Rattle.dem_margin.proofs.CoverFacts as facts
use Rattle.dem_margin.proofs.coverage.covers.Goals as goal

pub returns : goal.returns
returns c = λ drift from now moved. facts.covers c.args.shapes.now drift from now c.scene-scene.ensures.sound moved
