use Rattle.std.proofs.Common.{◌*◌, ◌^◌, ◌≤◌, arith, unsigned_abs}
use Rattle.std.proofs.lemmas.Int.{to_z-of_z}
use Rattle.std.proofs.lemmas.Nat.{mul-le}
use Rattle.dem_num.proofs.Sizes.{shifted_le}
use Rattle.dem_force.proofs.pushing.sliding.stretched.Goals as goal

pub returns-clause-size : goal.returns-clause-size
returns-clause-size c =
    let most : c.args.stiffness * unsigned_abs c.args.h ≤ 2 ^ 55 * 2 ^ 40 =
    mul-le c.args.stiffness (unsigned_abs c.args.h) (2 ^ 55) (2 ^ 40) c.requires.stiffness_small c.requires.held_small in
    grind (arith, to_z-of_z, shifted_le c.mul.result 32 (2 ^ 63))
