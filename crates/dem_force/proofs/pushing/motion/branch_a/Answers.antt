use Rattle.std.proofs.Common.{◌+◌, ◌^◌, arith}
use Rattle.dem_num.specs.Vectors.{widened, Within, difference_of}
use Rattle.dem_num.proofs.VectorSizes.{difference_within, within_wider}
use Rattle.dem_force.proofs.pushing.motion.branch_a.Goals as goal

pub returns-clause-size : goal.returns-clause-size
returns-clause-size c =
    let sum : Within (difference_of (widened c.args.a.now.lever) (widened c.offset_along.result)) (2 ^ 28 + 2 ^ 26) =
    difference_within (widened c.args.a.now.lever) (widened c.offset_along.result) (2 ^ 28) (2 ^ 26) c.requires.side.lever c.offset_along.ensures.size in
    rw c.sub3_short.ensures
    (within_wider (difference_of (widened c.args.a.now.lever) (widened c.offset_along.result)) (2 ^ 28 + 2 ^ 26) (2 ^ 29) sum (omega arith))
