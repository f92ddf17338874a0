use Rattle.std.proofs.Common.{◌^◌}
use Rattle.dem_num.proofs.VectorSizes.{difference_within}
use Rattle.dem_force.proofs.pushing.push.torque_on_first.Goals as goal

pub returns-clause-size : goal.returns-clause-size
returns-clause-size c =
    rw c.sub3.ensures
    (difference_within c.lever_torque.result c.args.rubbed (2 ^ 92) (2 ^ 89) c.lever_torque.ensures.size c.requires.rubbed_small)
