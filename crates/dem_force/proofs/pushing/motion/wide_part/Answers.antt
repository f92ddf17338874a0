use Rattle.std.proofs.Common.{◌*◌, ◌^◌, ◌≤◌, arith, unsigned_abs}
use Rattle.std.proofs.lemmas.Int.{to_z-of_z}
use Rattle.dem_num.specs.Vectors.{widened, dot_of}
use Rattle.dem_num.proofs.Sizes.{shifted_le}
use Rattle.dem_num.proofs.VectorSizes.{dot_le}
use Rattle.dem_force.proofs.pushing.motion.wide_part.Goals as goal

pub returns-clause-size : goal.returns-clause-size
returns-clause-size c =
    let most : unsigned_abs (dot_of (widened c.args.n) (widened c.args.u)) ≤ 3 * (2 ^ 30 * 2 ^ 48) =
    dot_le (widened c.args.n) (widened c.args.u) (2 ^ 30) (2 ^ 48) c.requires.normal c.requires.small in
    grind (arith, to_z-of_z, shifted_le c.dot.result 30 (2 ^ 50))
