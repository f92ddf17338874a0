use Rattle.std.proofs.Common.{◌*◌, ◌^◌, ◌<◌, arith}
use Rattle.dem_num.specs.Numbers.{root_of}
use Rattle.dem_num.specs.Vectors.{widened, norm2_of}
use Rattle.dem_num.proofs.RootFacts.{root_positive}
use Rattle.dem_facet.proofs.UnitFacts.{fine_part_x, fine_part_y, fine_part_z}
use Rattle.dem_facet.proofs.unit.fine_length.Goals as goal

pub returns-clause-positive : goal.returns-clause-positive
returns-clause-positive c =
    let some : 0 < 2 ^ 20 * norm2_of (widened c.args.n) = omega (arith, c.requires.long) in
    let positive : 0 < root_of (2 ^ 20 * norm2_of (widened c.args.n)) = root_positive (2 ^ 20 * norm2_of (widened c.args.n)) some in
    grind arith

pub returns-clause-x : goal.returns-clause-x
returns-clause-x c = let part = fine_part_x (2 ^ 10) (widened c.args.n) in grind arith

pub returns-clause-y : goal.returns-clause-y
returns-clause-y c = let part = fine_part_y (2 ^ 10) (widened c.args.n) in grind arith

pub returns-clause-z : goal.returns-clause-z
returns-clause-z c = let part = fine_part_z (2 ^ 10) (widened c.args.n) in grind arith
