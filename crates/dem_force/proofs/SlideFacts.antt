-- What the square of a length says of it, and torques of forces without a lever.
use Rattle.std.proofs.Common.{◌≡◌, ℕ, ℤ, pos, ◌+◌, ◌*◌, ◌^◌, ◌<◌, ◌≤◌, arith, true, false, refl, ap, ◌∙◌, inl, inr}
use Rattle.std.specs.Prelude.{nat_lt, nat_le}
use Rattle.std.proofs.lemmas.Bool.{cases_lt}
use Rattle.std.proofs.lemmas.Bool.Decides.{nat_tests}
use Rattle.dem_num.specs.declared.vector.Wide3.{Wide3}
use Rattle.dem_num.specs.Numbers.{IsRoot, root_of}
use Rattle.dem_num.specs.Vectors.{is_zero, no_vector, turn_product, cross_of, norm2_of, Within}
use Rattle.dem_num.proofs.ProductBounds.{lt_from_squares}
use Rattle.dem_num.proofs.RootFacts.{root_of-is_root, le_root, root_le}
use Rattle.dem_num.proofs.VectorSizes.{norm2_le}
use Rattle.dem_turn.proofs.StillFacts.{is_zero-no_vector}

-- the root of a number below the next square is at most the side
root_below : (x b : ℕ) → x < (b + 1) * (b + 1) → root_of x ≤ b
root_below x b l =
    let r : IsRoot x (root_of x) = root_of-is_root x in
    let side : root_of x < b + 1 = lt_from_squares (root_of x) (b + 1) (omega (arith, r.square_le)) in
    omega arith

-- whether a root is at most b shows in the square of the next number
pub root_within : (x b : ℕ) → nat_lt x ((b + 1) * (b + 1)) ≡ nat_le (root_of x) b
root_within x b = elim (cases_lt x ((b + 1) * (b + 1))) [
  | inl l ↦ let small : root_of x ≤ b = root_below x b l in grind (arith, nat_tests)
  | inr g ↦ let large : b + 1 ≤ root_of x = le_root x (b + 1) g in grind (arith, nat_tests)
]

-- the length of a force is at most what no force is longer than
pub root_in_all : (a : Wide3) (b : ℕ) → Within a (2 ^ 62) → 2 ^ 63 ≤ b → nat_le (root_of (norm2_of a)) b ≡ true
root_in_all a b h l =
    let most : norm2_of a ≤ 3 * (2 ^ 62 * 2 ^ 62) = norm2_le a (2 ^ 62) h in
    let small : root_of (norm2_of a) ≤ 2 ^ 63 = root_le (norm2_of a) (2 ^ 63) (omega arith) in
    grind (arith, nat_tests)

-- a bound that a force passes is less than what no force is longer than
pub passed_below : (a : Wide3) (b : ℕ) → Within a (2 ^ 62) → nat_le (root_of (norm2_of a)) b ≡ false → b < 2 ^ 63
passed_below a b h e =
    let most : norm2_of a ≤ 3 * (2 ^ 62 * 2 ^ 62) = norm2_le a (2 ^ 62) h in
    let small : root_of (norm2_of a) ≤ 2 ^ 63 = root_le (norm2_of a) (2 ^ 63) (omega arith) in
    grind (arith, nat_tests)

nothing_turned : (b d : ℤ) → turn_product (pos 0) b (pos 0) d ≡ pos 0
unfolding turn_product
nothing_turned b d = grind arith

cross_nothing : (f : Wide3) → cross_of no_vector f ≡ no_vector
cross_nothing f = rw (nothing_turned f.z f.y, nothing_turned f.x f.z, nothing_turned f.y f.x) refl

-- a force without a lever has no torque
pub cross_zero : (o f : Wide3) → is_zero o ≡ true → cross_of o f ≡ no_vector
cross_zero o f h = ap (λ (u : Wide3). cross_of u f) (is_zero-no_vector o h) ∙ cross_nothing f
