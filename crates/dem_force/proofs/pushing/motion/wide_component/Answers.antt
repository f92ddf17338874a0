use Rattle.std.proofs.Common.{◌*◌, ◌^◌, ◌≤◌, arith, unsigned_abs}
use Rattle.std.proofs.lemmas.Int.{to_z-of_z}
use Rattle.std.proofs.lemmas.Nat.{mul-le}
use Rattle.dem_num.proofs.Sizes.{shifted_le}
use Rattle.dem_force.proofs.pushing.motion.wide_component.Goals as goal

pub returns-clause-size : goal.returns-clause-size
returns-clause-size c =
    let most : unsigned_abs c.args.length * unsigned_abs c.args.n ≤ unsigned_abs c.args.length * 2 ^ 30 =
    mul-le (unsigned_abs c.args.length) (unsigned_abs c.args.n) (unsigned_abs c.args.length) (2 ^ 30) (omega arith) c.requires.normal in
    grind (arith, to_z-of_z, shifted_le c.mul.result 30 (unsigned_abs c.args.length))
