use Rattle.std.proofs.Common.{◌*◌, ◌^◌, ◌≤◌, arith}
use Rattle.dem_num.specs.Vectors.{widened, norm2_of}
use Rattle.dem_num.proofs.VectorSizes.{norm2_le}
use Rattle.dem_facet.proofs.unit.normal_square.Goals as goal

pub returns-clause-size : goal.returns-clause-size
returns-clause-size c =
    let most : norm2_of (widened c.args.n) ≤ 3 * (2 ^ 53 * 2 ^ 53) = norm2_le (widened c.args.n) (2 ^ 53) c.requires.small in
    grind arith
