use Rattle.std.proofs.Common.{arith, ◌≡◌, ◌+◌, ◌*◌, ◌/◌, ◌%◌, ◌^◌, ◌<◌, unsigned_abs}
use Rattle.std.proofs.lemmas.Int.{to_z-of_z}
use Rattle.std.proofs.lemmas.Nat.{div-add-mod', mod_below}
use Rattle.dem_turn.proofs.stepping.share.Goals as goal

pub returns-clause-below : goal.returns-clause-below
returns-clause-below c = let whole : 2 ^ 30 * unsigned_abs c.args.component / c.args.length * c.args.length + 2 ^ 30 * unsigned_abs c.args.component % c.args.length ≡ 2 ^ 30 * unsigned_abs c.args.component = div-add-mod' (2 ^ 30 * unsigned_abs c.args.component) c.args.length in grind (arith, to_z-of_z)

pub returns-clause-above : goal.returns-clause-above
returns-clause-above c = let whole : 2 ^ 30 * unsigned_abs c.args.component / c.args.length * c.args.length + 2 ^ 30 * unsigned_abs c.args.component % c.args.length ≡ 2 ^ 30 * unsigned_abs c.args.component = div-add-mod' (2 ^ 30 * unsigned_abs c.args.component) c.args.length in
    let rest : 2 ^ 30 * unsigned_abs c.args.component % c.args.length < c.args.length = mod_below (2 ^ 30 * unsigned_abs c.args.component) c.args.length c.requires.some in grind (arith, to_z-of_z)
