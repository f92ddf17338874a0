-- Floors over powers of two: how far apart they are.
use Rattle.std.proofs.Common.{◌≡◌, ℕ, ◌+◌, ◌*◌, ◌/◌, ◌%◌, ◌^◌, ◌<◌, ◌≤◌, arith, ℤ, pos, negsuc, ◌-ℤ◌, unsigned_abs, true, inl, inr}
use Rattle.std.specs.Prelude.{int_lt}
use Rattle.std.proofs.lemmas.Bool.{cases_lt}
use Rattle.std.proofs.lemmas.Int.{ints}
use Rattle.std.proofs.lemmas.Nat.{mul-le, div_below, div-add-mod', mod_below, pow_pos}
use Rattle.dem_num.specs.Numbers.{shifted}

-- a common factor goes, strictly
drop_factor_lt : (a b k : ℕ) → a * k < b * k → a < b
drop_factor_lt a b k h = elim (cases_lt a b) [
  | inl l ↦ l
  | inr g ↦ let grows : b * k ≤ a * k = mul-le b k a k g (omega arith) in absurd (omega arith)
]

-- numbers at most m divisors apart have quotients at most m apart
quotients_near : (a b m n : ℕ) → 0 < n → a ≤ b + m * n → a / n ≤ b / n + m
quotients_near a b m n some near =
    let whole : b / n * n + b % n ≡ b = div-add-mod' b n in
    let less : b % n < n = mod_below b n some in
    let below : a / n < b / n + m + 1 = div_below a n (b / n + m + 1) some (omega arith) in
    omega arith

-- numbers whose sum is less than m divisors have quotients whose sum is less than m
quotients_below : (a b m n : ℕ) → a + b < m * n → a / n + b / n < m
quotients_below a b m n near =
    let first : a / n * n + a % n ≡ a = div-add-mod' a n in
    let second : b / n * n + b % n ≡ b = div-add-mod' b n in
    drop_factor_lt (a / n + b / n) m n (omega arith)

-- where a floor is less than r, that of a number at most m times two to the power k away is less than r + m
pub shifted_near : (x y : ℤ) (k m r : ℕ) → unsigned_abs (x -ℤ y) ≤ m * 2 ^ k → int_lt (shifted y k) (pos r) ≡ true → int_lt (shifted x k) (pos (r + m)) ≡ true
unfolding shifted
shifted_near (pos a) (pos b) k m r near h = let f : a / 2 ^ k ≤ b / 2 ^ k + m = quotients_near a b m (2 ^ k) (pow_pos k) (grind (arith, ints)) in grind (arith, ints)
shifted_near (pos a) (negsuc b) k m r near h = let f : a / 2 ^ k + b / 2 ^ k < m = quotients_below a b m (2 ^ k) (grind (arith, ints)) in grind (arith, ints)
shifted_near (negsuc a) (pos b) k m r near h = grind (arith, ints)
shifted_near (negsuc a) (negsuc b) k m r near h = grind (arith, ints)
