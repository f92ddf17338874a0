use Rattle.std.proofs.Common.{◌^◌, ◌∙◌, sym}
use Rattle.dem_num.specs.Vectors.{widened}
use Rattle.dem_num.proofs.VectorSizes.{cross_within}
use Rattle.dem_force.proofs.SlideFacts.{cross_zero}
use Rattle.dem_force.proofs.pushing.push.lever_torque.Goals as goal

pub returns-else-is_zero-clause-size : goal.returns-else-is_zero-clause-size
returns-else-is_zero-clause-size c =
    rw c.cross.ensures.value (cross_within (widened c.args.lever) c.args.force (2 ^ 28) (2 ^ 63) c.requires.lever_small c.requires.force_small)

pub returns-then-is_zero-clause-value : goal.returns-then-is_zero-clause-value
returns-then-is_zero-clause-value c = sym (cross_zero (widened c.args.lever) c.args.force (sym c.is_zero.ensures ∙ c.if-is_zero.true))
