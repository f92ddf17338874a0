use Rattle.std.proofs.Common.{◌*◌, ◌/◌, ◌^◌, ◌≤◌, arith, unsigned_abs}
use Rattle.std.proofs.lemmas.Int.{to_z-of_z}
use Rattle.dem_wall.proofs.DirectionFacts.{times_part_le}
use Rattle.dem_wall.proofs.plane.wide_component.Goals as goal

pub returns-clause-size : goal.returns-clause-size
returns-clause-size c =
    let part : 2 ^ 70 * unsigned_abs c.args.x / c.args.length ≤ 2 ^ 30 =
    times_part_le (2 ^ 70 * unsigned_abs c.args.x) c.args.length (2 ^ 30) (2 ^ 40 * unsigned_abs c.args.x) c.requires.some c.requires.part (omega arith) in
    grind (arith, to_z-of_z)
