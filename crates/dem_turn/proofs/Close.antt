-- Floors of close numbers are close, and a turned offset stays within its swing limit.
use Rattle.std.proofs.Common.{◌≡◌, ℕ, ◌+◌, ◌-◌, ◌*◌, ◌/◌, ◌%◌, ◌^◌, ◌<◌, ◌≤◌, ℤ, pos, negsuc, ◌+ℤ◌, ◌-ℤ◌, ◌*ℤ◌, unsigned_abs, arith}
use Rattle.std.proofs.lemmas.Int.{ints}
use Rattle.std.proofs.lemmas.Nat.{div-add-mod', mod_below}
use Rattle.dem_num.specs.Numbers.{shifted}
use Rattle.dem_num.specs.Rotations.{swing_limit_of}

-- f is the floor of x over 2^30
record IsFloor (x f : ℤ) : Type 0 where
  rest : ℕ
  small : rest < 2 ^ 30
  whole : x ≡ pos (2 ^ 30) *ℤ f +ℤ pos rest

floor_of : (x : ℤ) → IsFloor x (shifted x 30)
unfolding shifted
floor_of (pos a) =
    let whole : a / 2 ^ 30 * 2 ^ 30 + a % 2 ^ 30 ≡ a = div-add-mod' a (2 ^ 30) in
    record { rest = a % 2 ^ 30; small = mod_below a (2 ^ 30) (omega arith); whole = omega (arith, ints) }
floor_of (negsuc a) =
    let whole : a / 2 ^ 30 * 2 ^ 30 + a % 2 ^ 30 ≡ a = div-add-mod' a (2 ^ 30) in
    let below : a % 2 ^ 30 < 2 ^ 30 = mod_below a (2 ^ 30) (omega arith) in
    record { rest = 2 ^ 30 - 1 - a % 2 ^ 30; small = omega arith; whole = omega (arith, ints) }

from_floors : (a b f g : ℤ) (r s d : ℕ) → a ≡ pos (2 ^ 30) *ℤ f +ℤ pos r → b ≡ pos (2 ^ 30) *ℤ g +ℤ pos s → r < 2 ^ 30 → s < 2 ^ 30 → unsigned_abs (a -ℤ b) ≤ d
    → 2 ^ 30 * unsigned_abs (f -ℤ g) ≤ d + 2 ^ 30
from_floors a b f g r s d ha hb hr hs h = omega (arith, ints)

floors_close : (a b : ℤ) (d : ℕ) → unsigned_abs (a -ℤ b) ≤ d → 2 ^ 30 * unsigned_abs (shifted a 30 -ℤ shifted b 30) ≤ d + 2 ^ 30
floors_close a b d h = let x = floor_of a in let y = floor_of b in from_floors a b (shifted a 30) (shifted b 30) x.rest y.rest d x.whole y.whole x.small y.small h

limit_holds : (spin arm x : ℕ) → 2 ^ 30 * x ≤ 45 * arm + 2 * (spin * arm) + 2 ^ 30 → x ≤ swing_limit_of spin arm
unfolding swing_limit_of
limit_holds spin arm x h =
    let turn : (2 * spin * arm) / 2 ^ 30 * 2 ^ 30 + (2 * spin * arm) % 2 ^ 30 ≡ 2 * spin * arm = div-add-mod' (2 * spin * arm) (2 ^ 30) in
    let turn_rest : (2 * spin * arm) % 2 ^ 30 < 2 ^ 30 = mod_below (2 * spin * arm) (2 ^ 30) (omega arith) in
    let part : arm / 2 ^ 24 * 2 ^ 24 + arm % 2 ^ 24 ≡ arm = div-add-mod' arm (2 ^ 24) in
    let part_rest : arm % 2 ^ 24 < 2 ^ 24 = mod_below arm (2 ^ 24) (omega arith) in
    omega arith

-- floors of numbers that a step moves this little are within the swing limit
pub floors_swing : (a b : ℤ) (spin arm : ℕ) → unsigned_abs (a -ℤ b) ≤ 45 * arm + 2 * (spin * arm) → unsigned_abs (shifted a 30 -ℤ shifted b 30) ≤ swing_limit_of spin arm
floors_swing a b spin arm h = limit_holds spin arm (unsigned_abs (shifted a 30 -ℤ shifted b 30)) (floors_close a b (45 * arm + 2 * (spin * arm)) h)
