use Rattle.std.proofs.Common.{◌^◌, ◌≤◌, ◌<◌, arith}
use Rattle.dem_num.specs.Vectors.{widened}
use Rattle.dem_num.specs.Rotations.{quat_norm2_of}
use Rattle.dem_num.proofs.QuatSizes.{quat_within}
use Rattle.dem_turn.proofs.StepSwing.{unit_swings}
use Rattle.dem_turn.proofs.stepping.turn_step.Goals as goal

pub stepped-requires-clause-components : goal.stepped-requires-clause-components
stepped-requires-clause-components c = quat_within c.args.q (2 ^ 31) c.requires.orientation.short_enough

pub returns-else-is_zero-clause-swing : goal.returns-else-is_zero-clause-swing
returns-else-is_zero-clause-swing c =
    let long : 2 ^ 58 ≤ quat_norm2_of c.args.q = c.requires.orientation.long_enough in
    let some : 0 < quat_norm2_of c.args.q = omega arith in
    λ o spin small. rw (c.unit.ensures.value, c.stepped.ensures.value) (unit_swings c.args.q (widened c.args.w) o spin some small)
