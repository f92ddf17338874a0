use Rattle.std.proofs.Common.{refl}
use Rattle.dem_shape.proofs.PoseFacts.{read_orientation, pose_made}
use Rattle.dem_shape.proofs.pose.Pose.new.Goals as goal

pub matrix-requires : goal.matrix-requires
matrix-requires c = read_orientation c.args.shapes.now c.args.bodies.now c.args.clump _ c.requires.sound c.requires.there

pub returns : goal.returns
returns c = pose_made c.args.shapes.now c.args.bodies.now c.args.clump _ _ c.scene-scene.ensures.sound c.requires.sound c.requires.there refl refl c.matrix.ensures.value c.matrix.ensures.size
