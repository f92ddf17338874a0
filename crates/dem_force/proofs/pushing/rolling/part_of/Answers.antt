use Rattle.std.proofs.Common.{◌*◌, ◌/◌, ◌≤◌, arith, unsigned_abs}
use Rattle.std.proofs.lemmas.Int.{to_z-of_z}
use Rattle.std.proofs.Math.Nat.{mul_comm}
use Rattle.dem_num.proofs.ProductBounds.{part_le}
use Rattle.dem_force.proofs.pushing.rolling.part_of.Goals as goal

pub returns-clause-size : goal.returns-clause-size
returns-clause-size c =
    let less : c.args.bound * unsigned_abs c.args.part / c.args.size ≤ c.args.bound =
    rw (mul_comm c.args.bound (unsigned_abs c.args.part))
    (part_le (unsigned_abs c.args.part) c.args.size c.args.bound c.requires.rolls c.requires.covers) in
    grind (arith, to_z-of_z)
