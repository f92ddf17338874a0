use Rattle.dem_force.proofs.TouchFacts.{wall_for}
use Rattle.dem_force.proofs.touching.pairs.wall_beside.Goals as goal

pub returns-clause-fits : goal.returns-clause-fits
returns-clause-fits c =
    wall_for c.args.shapes.now c.args.pair.a _ c.wall_of.result c.scene-scene.ensures.sound c.requires.pair.first c.wall_of.ensures.sound
