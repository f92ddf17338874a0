use Rattle.std.proofs.Common.{◌^◌, pos}
use Rattle.dem_num.proofs.VectorSizes.{clamped_within}
use Rattle.dem_force.proofs.advancing.body.kept_torque.Goals as goal

pub returns-clause-size : goal.returns-clause-size
returns-clause-size c = rw c.cl3.ensures (clamped_within c.args.torque (pos (2 ^ 90)))
