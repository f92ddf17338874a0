use Rattle.std.proofs.Common.{◌*◌, ◌^◌, ◌≤◌, arith}
use Rattle.dem_num.specs.Vectors.{widened, norm2_of}
use Rattle.dem_num.proofs.RootFacts.{root_le}
use Rattle.dem_num.proofs.VectorSizes.{norm2_le}
use Rattle.dem_force.proofs.RollFacts.{part_in_size}
use Rattle.dem_force.proofs.pushing.rolling.roll_size.Goals as goal

pub returns-clause-covers : goal.returns-clause-covers
returns-clause-covers c = rw (c.root.ensures.value, c.norm2.ensures, c.widen.ensures) (part_in_size (widened c.args.roll))

pub returns-clause-size : goal.returns-clause-size
returns-clause-size c =
    let most : norm2_of (widened c.args.roll) ≤ 3 * (2 ^ 33 * 2 ^ 33) = norm2_le (widened c.args.roll) (2 ^ 33) c.requires.small in
    rw (c.root.ensures.value, c.norm2.ensures, c.widen.ensures) (root_le (norm2_of (widened c.args.roll)) (2 ^ 34) (omega arith))
