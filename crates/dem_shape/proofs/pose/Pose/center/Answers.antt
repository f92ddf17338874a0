use Rattle.std.proofs.Common.{ap, ◌∙◌}
use Rattle.dem_num.specs.Vectors.{widened, sum_of}
use Rattle.dem_num.specs.Rotations.{turned_by}
use Rattle.dem_model.specs.Pairs.{sphere_at}
use Rattle.dem_model.specs.declared.shape.Ball.{Ball}
use Rattle.dem_shape.proofs.PoseFacts.{pose_places}
use Rattle.dem_shape.proofs.pose.Pose.center.Goals as goal

pub returns : goal.returns
returns c =
    pose_places c.args.shapes.now c.args.bodies.now (sphere_at c.args.shapes.now c.args.s) c.args.self.now c.sphere_center.result c.requires.pose
    (c.sphere_center.ensures ∙ ap (λ (b : Ball). sum_of (widened c.args.self.now.p) (turned_by c.args.self.now.rows (widened b.at))) c.ball_of-ball.ensures.value)
