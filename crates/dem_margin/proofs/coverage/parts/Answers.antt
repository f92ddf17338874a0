use Rattle.dem_margin.proofs.MarkFacts.{parted}
use Rattle.dem_margin.proofs.coverage.parts.Goals as goal

pub returns : goal.returns
returns c = λ steps from now p. parted c.args.shapes.now steps from now p c.scene-scene.ensures.sound
