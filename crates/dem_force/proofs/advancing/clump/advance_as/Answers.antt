use Rattle.dem_num.specs.Vectors.{widened}
use Rattle.dem_shape.proofs.PoseFacts.{in_box-small}
use Rattle.dem_force.proofs.advancing.clump.advance_as.Goals as goal

pub within_limits-requires-clause-place : goal.within_limits-requires-clause-place
within_limits-requires-clause-place c = in_box-small c.args.scene.now (widened c.args.body.now.p) c.requires.scene c.requires.body.p
