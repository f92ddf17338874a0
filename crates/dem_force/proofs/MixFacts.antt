-- Two equal springs in a row.
use Rattle.std.proofs.Common.{◌≡◌, ℕ, zero, suc, ◌+◌, ◌*◌, ◌/◌, ◌<◌, ◌≤◌, arith, refl, sym}
use Rattle.std.proofs.lemmas.Nat.{mul-le, div_below, le-div}
use Rattle.std.proofs.lemmas.Bool.Decides.{nat_tests}
use Rattle.dem_model.specs.Mixing.{in_a_row}

-- half a number is what two of it come to
half_is : (a : ℕ) → 0 < a → a / 2 ≡ (a * a) / (a + a)
half_is a p =
    let low : a / 2 * 2 ≤ a = omega arith in
    let high : a < (a / 2 + 1) * 2 = omega arith in
    let below : a / 2 * 2 * a ≤ a * a = mul-le (a / 2 * 2) a a a low (omega arith) in
    let above : (a + 1) * a ≤ (a / 2 + 1) * 2 * a = mul-le (a + 1) a ((a / 2 + 1) * 2) a (omega arith) (omega arith) in
    let least : a / 2 ≤ (a * a) / (a + a) = le-div (a / 2) (a * a) (a + a) (omega arith) (omega arith) in
    let most : (a * a) / (a + a) < a / 2 + 1 = div_below (a * a) (a + a) (a / 2 + 1) (omega arith) (omega arith) in
    omega arith

-- two equal springs in a row are half as stiff
pub equals_in_a_row : (a b : ℕ) → a ≡ b → a / 2 ≡ in_a_row a b
unfolding in_a_row
equals_in_a_row zero b e = rw (sym e) refl
equals_in_a_row (suc n) b e = rw (sym e) (grind (arith, nat_tests, half_is (suc n) (omega arith)))
