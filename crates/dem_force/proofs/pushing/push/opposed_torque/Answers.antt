use Rattle.std.proofs.Common.{◌-◌, ◌^◌, arith}
use Rattle.dem_num.proofs.VectorSizes.{within_wider, opposed_within}
use Rattle.dem_force.proofs.pushing.push.opposed_torque.Goals as goal

pub negated3-requires : goal.negated3-requires
negated3-requires c =
    within_wider c.lever_torque.result (2 ^ 92) (2 ^ 127 - 1) c.lever_torque.ensures.size (omega arith)

pub returns-clause-size : goal.returns-clause-size
returns-clause-size c = rw c.negated3.ensures (opposed_within c.lever_torque.result (2 ^ 92) c.lever_torque.ensures.size)
