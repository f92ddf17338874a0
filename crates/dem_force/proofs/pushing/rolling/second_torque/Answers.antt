use Rattle.std.proofs.Common.{◌+◌, ◌^◌, arith}
use Rattle.dem_num.specs.Vectors.{difference_of}
use Rattle.dem_num.proofs.VectorSizes.{within_wider, difference_within}
use Rattle.dem_force.proofs.pushing.rolling.second_torque.Goals as goal

pub returns-else-b-clause-size : goal.returns-else-b-clause-size
returns-else-b-clause-size c =
    rw c.sub3.ensures
    (within_wider (difference_of c.args.torque c.args.rolling) (2 ^ 92 + 2 ^ 89 + 2 ^ 90) (2 ^ 93)
    (difference_within c.args.torque c.args.rolling (2 ^ 92 + 2 ^ 89) (2 ^ 90) c.requires.torque_small c.requires.rolling_small)
    (omega arith))
