use Rattle.std.proofs.Common.{◌^◌}
use Rattle.dem_num.specs.Vectors.{widened}
use Rattle.dem_num.proofs.VectorSizes.{difference_within}
use Rattle.dem_force.proofs.pushing.motion.relative_velocity.Goals as goal

pub returns-clause-size : goal.returns-clause-size
returns-clause-size c =
    rw c.sub3_short.ensures
    (difference_within (widened c.surface_velocity.result) (widened c.surface_velocity-2.result) (2 ^ 47) (2 ^ 47) c.surface_velocity.ensures.size c.surface_velocity-2.ensures.size)
