use Rattle.std.proofs.Common.{◌*◌, ◌/◌, ◌≤◌, arith, unsigned_abs}
use Rattle.std.proofs.lemmas.Int.{to_z-of_z}
use Rattle.dem_num.proofs.ProductBounds.{part_le}
use Rattle.dem_force.proofs.pushing.sliding.shortened.Goals as goal

pub returns-clause-size : goal.returns-clause-size
returns-clause-size c =
    let less : c.args.bound * unsigned_abs c.args.x / c.args.size ≤ unsigned_abs c.args.x =
    part_le c.args.bound c.args.size (unsigned_abs c.args.x) (omega arith) (omega arith) in
    grind (arith, to_z-of_z)
