use Rattle.std.proofs.Common.{◌*◌, ◌/◌, ◌≤◌, arith, unsigned_abs}
use Rattle.std.proofs.lemmas.Int.{to_z-of_z}
use Rattle.dem_num.proofs.ProductBounds.{part_le}
use Rattle.dem_force.proofs.advancing.body.spun_up.Goals as goal

pub returns-clause-size : goal.returns-clause-size
returns-clause-size c =
    let some : 1 ≤ unsigned_abs c.args.moment = grind (arith, c.requires.moment_within.low_le) in
    let less : 1 * unsigned_abs c.args.torque / unsigned_abs c.args.moment ≤ unsigned_abs c.args.torque =
    part_le 1 (unsigned_abs c.args.moment) (unsigned_abs c.args.torque) (omega arith) some in
    grind (arith, to_z-of_z)
