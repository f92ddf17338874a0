-- Bounds of products and quotients of natural numbers.
use Rattle.std.proofs.Common.{◌≡◌, ℕ, suc, ◌+◌, ◌-◌, ◌*◌, ◌/◌, ◌<◌, ◌≤◌, arith, inl, inr}
use Rattle.std.proofs.lemmas.Bool.{cases_lt}
use Rattle.std.proofs.lemmas.Nat.{mul-le, mul-lt, div_below}

-- a square grows with its side
pub le_from_squares : (a m : ℕ) → a * a ≤ m * m → a ≤ m
le_from_squares a m h = elim (cases_lt m a) [
  | inl l ↦ let grows : m * m < a * a = mul-lt m m a a l l in absurd (omega arith)
  | inr g ↦ g
]

-- a square grows with its side, strictly
pub lt_from_squares : (a m : ℕ) → a * a < m * m → a < m
lt_from_squares a m h = elim (cases_lt a m) [
  | inl l ↦ l
  | inr g ↦ let grows : m * m ≤ a * a = mul-le m m a a g g in absurd (omega arith)
]

two_products_over : (a d : ℕ) → 2 * (a * (a + d)) ≤ a * a + (a + d) * (a + d)
two_products_over a d = omega arith

two_products_from : (a b d : ℕ) → b ≡ a + d → 2 * (a * b) ≤ a * a + b * b
two_products_from a b d e = rw e (two_products_over a d)

-- twice a product is at most the sum of the squares
pub two_products_le : (a b : ℕ) → 2 * (a * b) ≤ a * a + b * b
two_products_le a b = elim (cases_lt a b) [
  | inl l ↦ two_products_from a b (b - a) (omega arith)
  | inr g ↦ let turned : 2 * (b * a) ≤ b * b + a * a = two_products_from b a (a - b) (omega arith) in omega arith
]

-- a number is at most its square
pub le_square : (a : ℕ) → a ≤ a * a
le_square a = elim (cases_lt 0 a) [
  | inl l ↦ let grows : 1 * a ≤ a * a = mul-le 1 a a a l (omega arith) in omega arith
  | inr g ↦ omega arith
]

-- a common factor goes
pub drop_factor : (a b k : ℕ) → a * k ≤ b * k → 0 < k → a ≤ b
drop_factor a b k h p = elim (cases_lt b a) [
  | inl l ↦ let grows : (b + 1) * k ≤ a * k = mul-le (b + 1) k a k (omega arith) (omega arith) in absurd (omega arith)
  | inr g ↦ g
]

-- the quotient by n of m times k, where m is at most n, is at most k
pub part_le : (m n k : ℕ) → 0 < n → m ≤ n → m * k / n ≤ k
part_le m n k p l = let most : m * k ≤ n * k = mul-le m k n k l (omega arith) in
    let below : m * k / n < suc k = div_below (m * k) n (suc k) p (omega arith) in omega arith

-- x in the ratio of l to t, where l is less than t, is at most x
pub in_ratio_le : (x l t : ℕ) → l < t → x * l / t ≤ x
in_ratio_le x l t h = let most : x * l ≤ x * t = mul-le x l x t (omega arith) (omega arith) in
    let below : x * l / t < suc x = div_below (x * l) t (suc x) (omega arith) (omega arith) in omega arith
