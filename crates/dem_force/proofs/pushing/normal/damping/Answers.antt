use Rattle.std.proofs.Common.{◌*◌, ◌^◌, ◌≤◌, arith, unsigned_abs}
use Rattle.std.proofs.lemmas.Int.{to_z-of_z}
use Rattle.std.proofs.lemmas.Nat.{mul-le}
use Rattle.dem_num.proofs.Sizes.{shifted_le}
use Rattle.dem_force.proofs.pushing.normal.damping.Goals as goal

pub returns-clause-size : goal.returns-clause-size
returns-clause-size c =
    let most : c.args.factor * unsigned_abs c.args.speed ≤ 2 ^ 66 * 2 ^ 51 =
    mul-le c.args.factor (unsigned_abs c.args.speed) (2 ^ 66) (2 ^ 51) c.requires.factor_small c.requires.speed_small in
    grind (arith, to_z-of_z, shifted_le c.mul.result 32 (2 ^ 85))
