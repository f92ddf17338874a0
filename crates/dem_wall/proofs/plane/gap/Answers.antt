use Rattle.std.proofs.Common.{◌*◌, ◌^◌, ◌≤◌, arith, unsigned_abs}
use Rattle.std.proofs.lemmas.Int.{to_z-of_z}
use Rattle.dem_num.specs.Vectors.{widened, dot_of}
use Rattle.dem_num.proofs.Sizes.{shifted_le}
use Rattle.dem_num.proofs.VectorSizes.{dot_le}
use Rattle.dem_wall.proofs.plane.gap.Goals as goal

pub returns-clause-size : goal.returns-clause-size
returns-clause-size c =
    let most : unsigned_abs (dot_of (widened c.args.normal) c.place_difference.result) ≤ 3 * (2 ^ 30 * 2 ^ 37) =
    dot_le (widened c.args.normal) c.place_difference.result (2 ^ 30) (2 ^ 37) c.requires.normal_small c.place_difference.ensures.size in
    grind (arith, to_z-of_z, shifted_le c.dot.result 30 (2 ^ 39))
