use Rattle.std.proofs.Common.{◌*◌, ◌^◌, ◌≤◌, arith, unsigned_abs}
use Rattle.std.proofs.lemmas.Int.{to_z-of_z}
use Rattle.std.proofs.lemmas.Nat.{mul-le}
use Rattle.dem_num.proofs.Sizes.{shifted_le}
use Rattle.dem_force.proofs.pushing.narrow.wide_floor.Goals as goal

pub returns-clause-size : goal.returns-clause-size
returns-clause-size c =
    let most : c.args.factor * unsigned_abs c.args.x ≤ 2 ^ 50 * 2 ^ 43 =
    mul-le c.args.factor (unsigned_abs c.args.x) (2 ^ 50) (2 ^ 43) c.requires.factor_small c.requires.small in
    grind (arith, to_z-of_z, shifted_le c.mul.result 32 (2 ^ 61))
