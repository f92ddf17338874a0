use Rattle.std.proofs.Common.{◌^◌}
use Rattle.dem_num.specs.Vectors.{widened}
use Rattle.dem_num.proofs.VectorSizes.{difference_within}
use Rattle.dem_force.proofs.RollFacts.{across_within}
use Rattle.dem_force.proofs.pushing.rolling.roll.Goals as goal

pub returns-clause-size : goal.returns-clause-size
returns-clause-size c =
    rw c.part_across.ensures.value
    (across_within c.args.n (widened c.sub3_short.result) (2 ^ 31) c.requires.direction
    (rw c.sub3_short.ensures
    (difference_within (widened c.args.a.now.spin) (widened c.args.b.now.spin) (2 ^ 30) (2 ^ 30) c.requires.first.spin c.requires.second.spin)))
