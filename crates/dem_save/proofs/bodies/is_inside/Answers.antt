use Rattle.std.proofs.Common.{◌^◌, arith, sym}
use Rattle.dem_num.specs.Vectors.{widened}
use Rattle.dem_num.proofs.VectorSizes.{within_wider}
use Rattle.dem_shape.proofs.PoseFacts.{in_box-small}
use Rattle.dem_save.proofs.bodies.is_inside.Goals as goal

pub centers_inside-requires-clause-place : goal.centers_inside-requires-clause-place
centers_inside-requires-clause-place c =
    within_wider (widened c.args.body.p) (2 ^ 36) (2 ^ 37) (in_box-small c.args.scene.now (widened c.args.body.p) c.requires.scene (sym c.if-in_box.ensures)) (omega arith)
