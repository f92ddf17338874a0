use Rattle.std.proofs.Common.{◌*◌, ◌^◌, ◌≤◌, arith, unsigned_abs}
use Rattle.std.proofs.lemmas.Int.{to_z-of_z}
use Rattle.std.proofs.lemmas.Nat.{mul-le}
use Rattle.dem_num.proofs.Sizes.{shifted_le}
use Rattle.dem_force.proofs.pushing.push.at_depth.Goals as goal

pub returns-clause-size : goal.returns-clause-size
returns-clause-size c =
    let most : c.args.depth * unsigned_abs c.args.turned ≤ 2 ^ 26 * 2 ^ 93 =
    mul-le c.args.depth (unsigned_abs c.args.turned) (2 ^ 26) (2 ^ 93) c.requires.depth_small c.requires.turned_small in
    grind (arith, to_z-of_z, shifted_le c.mul.result 30 (2 ^ 89))
