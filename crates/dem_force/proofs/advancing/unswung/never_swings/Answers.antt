use Rattle.dem_force.proofs.SwingLaw.{ends_unswung}
use Rattle.dem_force.proofs.advancing.unswung.never_swings.Goals as goal

pub returns : goal.returns
returns c = ends_unswung c.args.shapes.now c.scene-scene.ensures.sound
