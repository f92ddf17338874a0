use Rattle.std.proofs.Common.{◌*◌, ◌^◌, ◌<◌, ◌≤◌, arith}
use Rattle.dem_num.specs.Numbers.{root_of}
use Rattle.dem_num.specs.Vectors.{widened, norm2_of}
use Rattle.dem_num.proofs.RootFacts.{root_le, root_positive}
use Rattle.dem_wall.proofs.DirectionFacts.{fine_part_x, fine_part_y, fine_part_z, norm2_positive}
use Rattle.dem_wall.proofs.plane.fine_length.Goals as goal

pub returns-clause-positive : goal.returns-clause-positive
returns-clause-positive c =
    let some : 0 < norm2_of (widened c.args.dir) = norm2_positive (widened c.args.dir) c.requires.some in
    let positive : 0 < root_of (2 ^ 80 * c.direction_square.result) = root_positive (2 ^ 80 * c.direction_square.result) (grind arith) in
    grind arith

pub returns-clause-size : goal.returns-clause-size
returns-clause-size c =
    let small : root_of (2 ^ 80 * c.direction_square.result) ≤ 2 ^ 62 = root_le (2 ^ 80 * c.direction_square.result) (2 ^ 62) (grind arith) in
    grind arith

pub returns-clause-x : goal.returns-clause-x
returns-clause-x c = let part = fine_part_x (2 ^ 40) (widened c.args.dir) in grind arith

pub returns-clause-y : goal.returns-clause-y
returns-clause-y c = let part = fine_part_y (2 ^ 40) (widened c.args.dir) in grind arith

pub returns-clause-z : goal.returns-clause-z
returns-clause-z c = let part = fine_part_z (2 ^ 40) (widened c.args.dir) in grind arith
