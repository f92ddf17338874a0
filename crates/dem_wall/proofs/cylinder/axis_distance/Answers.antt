use Rattle.std.proofs.Common.{◌^◌, ◌<◌, ◌≤◌, arith}
use Rattle.dem_num.specs.Numbers.{root_of}
use Rattle.dem_num.proofs.RootFacts.{root_le, root_positive}
use Rattle.dem_model.specs.Touch.{first_across, second_across}
use Rattle.dem_wall.proofs.DirectionFacts.{distance2_first, distance2_second}
use Rattle.dem_wall.proofs.cylinder.axis_distance.Goals as goal

pub returns-clause-positive : goal.returns-clause-positive
returns-clause-positive c =
    let positive : 0 < root_of c.square_distance.result = root_positive c.square_distance.result (grind arith) in
    grind arith

pub returns-clause-size : goal.returns-clause-size
returns-clause-size c =
    let small : root_of c.square_distance.result ≤ 2 ^ 38 = root_le c.square_distance.result (2 ^ 38) (grind arith) in
    grind arith

pub returns-clause-first : goal.returns-clause-first
returns-clause-first c =
    let part = distance2_first (first_across c.args.axis c.args.offset) (second_across c.args.axis c.args.offset) in grind arith

pub returns-clause-second : goal.returns-clause-second
returns-clause-second c =
    let part = distance2_second (first_across c.args.axis c.args.offset) (second_across c.args.axis c.args.offset) in grind arith
