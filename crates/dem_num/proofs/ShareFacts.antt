-- How far a share is from what a near reciprocal makes of it.
use Rattle.std.proofs.Common.{ℕ, ◌+◌, ◌*◌, ◌^◌, ◌<◌, ◌≤◌, arith, inl, inr}
use Rattle.std.proofs.lemmas.Bool.{cases_lt}
use Rattle.std.proofs.lemmas.Nat.{mul-le}
use Rattle.dem_num.proofs.ProductBounds.{drop_factor}

-- a common factor goes, strictly
drop_factor_lt : (a b k : ℕ) → a * k < b * k → a < b
drop_factor_lt a b k h = elim (cases_lt a b) [
  | inl l ↦ l
  | inr g ↦ let most : b * k ≤ a * k = mul-le b k a k g (omega arith) in absurd (omega arith)
]

-- the scale of a near reciprocal isn't zero
scale_positive : (w s r : ℕ) → 2 ^ 127 ≤ r * (w * s) + 2 ^ 97 → 0 < s
scale_positive w s r c = elim (cases_lt 0 s) [
  | inl l ↦ l
  | inr g ↦
      let none : w * s ≤ w * 0 = mul-le w s w 0 (omega arith) g in
      let nothing : r * (w * s) ≤ r * 0 = mul-le r (w * s) r 0 (omega arith) (omega arith) in absurd (omega arith)
]

-- what is guessed is at most the share
pub guess_below : (p w s r g : ℕ) → r * (w * s) ≤ 2 ^ 127 → 2 ^ 127 ≤ r * (w * s) + 2 ^ 97 → g * 2 ^ 97 ≤ p * s * r → g * w ≤ 2 ^ 30 * p
guess_below p w s r g b c h =
    let some : 0 < s = scale_positive w s r c in
    let one : (g * 2 ^ 97) * (w * s) ≤ (p * s * r) * (w * s) = mul-le (g * 2 ^ 97) (w * s) (p * s * r) (w * s) h (omega arith) in
    let two : (p * s) * (r * (w * s)) ≤ (p * s) * 2 ^ 127 = mul-le (p * s) (r * (w * s)) (p * s) (2 ^ 127) (omega arith) b in
    drop_factor (g * w) (2 ^ 30 * p) (2 ^ 97 * s) (omega arith) (omega arith)

-- and at least one less
pub guess_above : (p w s r g : ℕ) → 0 < w → p ≤ w → 2 ^ 127 ≤ r * (w * s) + 2 ^ 97 → p * s * r < (g + 1) * 2 ^ 97 → 2 ^ 30 * p < (g + 2) * w
guess_above p w s r g n l c h =
    let some : 0 < s = scale_positive w s r c in
    let whole : 1 * 1 ≤ w * s = mul-le 1 1 w s n some in
    let one : (p * s * r + 1) * (w * s) ≤ ((g + 1) * 2 ^ 97) * (w * s) = mul-le (p * s * r + 1) (w * s) ((g + 1) * 2 ^ 97) (w * s) (omega arith) (omega arith) in
    let two : (p * s) * 2 ^ 127 ≤ (p * s) * (r * (w * s) + 2 ^ 97) = mul-le (p * s) (2 ^ 127) (p * s) (r * (w * s) + 2 ^ 97) (omega arith) c in
    let three : p * s ≤ w * s = mul-le p s w s l (omega arith) in
    drop_factor_lt (2 ^ 30 * p) ((g + 2) * w) (2 ^ 97 * s) (omega arith)
