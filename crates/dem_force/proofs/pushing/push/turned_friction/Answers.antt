use Rattle.std.proofs.Common.{◌^◌}
use Rattle.dem_num.specs.Vectors.{widened}
use Rattle.dem_num.proofs.VectorSizes.{cross_within}
use Rattle.dem_force.proofs.pushing.push.turned_friction.Goals as goal

pub returns-clause-size : goal.returns-clause-size
returns-clause-size c =
    rw (c.cross.ensures.value, c.widen.ensures) (cross_within (widened c.args.n) (widened c.args.friction) (2 ^ 30) (2 ^ 62) c.requires.normal c.requires.friction_small)
