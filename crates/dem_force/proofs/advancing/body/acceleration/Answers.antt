use Rattle.std.proofs.Common.{◌*◌, ◌/◌, ◌≤◌, arith, unsigned_abs}
use Rattle.std.proofs.lemmas.Int.{to_z-of_z}
use Rattle.dem_num.proofs.ProductBounds.{part_le}
use Rattle.dem_force.proofs.advancing.body.acceleration.Goals as goal

pub returns-clause-size : goal.returns-clause-size
returns-clause-size c =
    let less : 1 * unsigned_abs c.args.force / c.args.mass ≤ unsigned_abs c.args.force =
    part_le 1 c.args.mass (unsigned_abs c.args.force) (omega arith) c.requires.has_mass in
    grind (arith, to_z-of_z)
