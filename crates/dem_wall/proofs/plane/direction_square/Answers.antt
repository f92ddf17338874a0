use Rattle.std.proofs.Common.{◌*◌, ◌^◌, ◌≤◌, arith}
use Rattle.dem_num.specs.Vectors.{widened, norm2_of}
use Rattle.dem_num.proofs.VectorSizes.{norm2_le}
use Rattle.dem_wall.proofs.plane.direction_square.Goals as goal

pub returns-clause-size : goal.returns-clause-size
returns-clause-size c =
    let most : norm2_of (widened c.args.dir) ≤ 3 * (2 ^ 20 * 2 ^ 20) = norm2_le (widened c.args.dir) (2 ^ 20) c.requires.small in
    grind arith
