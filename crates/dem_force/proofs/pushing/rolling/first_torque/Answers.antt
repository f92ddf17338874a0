use Rattle.std.proofs.Common.{◌+◌, ◌^◌, arith}
use Rattle.dem_num.specs.Vectors.{sum_of}
use Rattle.dem_num.proofs.VectorSizes.{within_wider, sum_within}
use Rattle.dem_force.proofs.pushing.rolling.first_torque.Goals as goal

pub returns-clause-size : goal.returns-clause-size
returns-clause-size c =
    rw c.add3.ensures
    (within_wider (sum_of c.args.torque c.args.rolling) (2 ^ 92 + 2 ^ 89 + 2 ^ 90) (2 ^ 93)
    (sum_within c.args.torque c.args.rolling (2 ^ 92 + 2 ^ 89) (2 ^ 90) c.requires.torque_small c.requires.rolling_small)
    (omega arith))
