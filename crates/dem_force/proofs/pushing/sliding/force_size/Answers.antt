use Rattle.std.proofs.Common.{◌*◌, ◌^◌, ◌≤◌, arith}
use Rattle.dem_num.specs.Numbers.{root_of}
use Rattle.dem_num.specs.Vectors.{widened, norm2_of}
use Rattle.dem_num.proofs.VectorSizes.{norm2_le}
use Rattle.dem_num.proofs.RootFacts.{root_le}
use Rattle.dem_force.proofs.pushing.sliding.force_size.Goals as goal

pub returns-clause-size : goal.returns-clause-size
returns-clause-size c =
    let most : norm2_of (widened c.args.force) ≤ 3 * (2 ^ 62 * 2 ^ 62) = norm2_le (widened c.args.force) (2 ^ 62) c.requires.force_small in
    let small : root_of (norm2_of (widened c.args.force)) ≤ 2 ^ 63 = root_le (norm2_of (widened c.args.force)) (2 ^ 63) (omega arith) in
    grind arith
