use Rattle.std.proofs.Common.{◌*◌, ◌^◌, ◌≤◌, arith, unsigned_abs}
use Rattle.std.proofs.lemmas.Int.{to_z-of_z}
use Rattle.std.proofs.lemmas.Nat.{mul-le}
use Rattle.dem_num.proofs.Sizes.{shifted_le}
use Rattle.dem_force.proofs.pushing.motion.offset_component.Goals as goal

pub returns-clause-size : goal.returns-clause-size
returns-clause-size c =
    let most : c.args.length * unsigned_abs c.args.n ≤ 2 ^ 26 * 2 ^ 30 =
    mul-le c.args.length (unsigned_abs c.args.n) (2 ^ 26) (2 ^ 30) c.requires.length_small c.requires.normal in
    grind (arith, to_z-of_z, shifted_le c.mul_short.result 30 (2 ^ 26))
