use Rattle.dem_bins.proofs.FaceFacts.{first-wall}
use Rattle.dem_bins.proofs.facing.face_of.Goals as goal

pub wall_beside-wall-requires-clause-pair : goal.wall_beside-wall-requires-clause-pair
wall_beside-wall-requires-clause-pair c = first-wall c.args.shapes.now c.args.b c.scene-scene.ensures.sound c.requires.later c.requires.there
