use Rattle.std.proofs.Common.{◌*◌, ◌/◌, ◌^◌, ◌≤◌, arith, unsigned_abs}
use Rattle.std.proofs.lemmas.Int.{to_z-of_z}
use Rattle.dem_facet.proofs.UnitFacts.{times_part_le}
use Rattle.dem_facet.proofs.touching.wide_part.Goals as goal

pub returns-clause-size : goal.returns-clause-size
returns-clause-size c =
    let part : 2 ^ 30 * unsigned_abs c.args.x / c.args.distance ≤ 2 ^ 30 =
    times_part_le (2 ^ 30 * unsigned_abs c.args.x) c.args.distance (2 ^ 30) (unsigned_abs c.args.x) c.requires.some c.requires.part (omega arith) in
    grind (arith, to_z-of_z)
