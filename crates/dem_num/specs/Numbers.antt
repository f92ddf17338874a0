-- Quotients, floors, clamps and whole roots, over whole numbers without width.
use Rattle.std.specs.Prelude.{ℕ, zero, suc, ℤ, ◌+◌, ◌*◌, ◌<◌, ◌≤◌, neg_ℤ, int_div, unsigned_abs, nat_le, if◌then◌else◌}
use Rattle.std.specs.Int.{int_shr, int_max, int_min}

-- the quotient, rounded toward zero
unfoldable pub quotient : ℤ → ℤ → ℤ
quotient x y = int_div x y

-- the floor of the number over two to the power k
unfoldable pub shifted : ℤ → ℕ → ℤ
shifted x k = int_shr x k

-- the number from minus m to m that is nearest to x
unfoldable pub clamped : ℤ → ℤ → ℤ
clamped x m = int_max (neg_ℤ m) (int_min x m)

-- the opposite number
unfoldable pub opposite : ℤ → ℤ
opposite x = neg_ℤ x

-- the number is at most m in size
abbrev pub AtMost : ℤ → ℕ → Type 0
AtMost z m = unsigned_abs z ≤ m

-- the square of a number
abbrev pub square_of : ℤ → ℕ
square_of x = unsigned_abs x * unsigned_abs x

-- s is the greatest whole number whose square is at most x
pub record IsRoot (x s : ℕ) : Type 0 where
  pub square_le : s * s ≤ x
  pub next_gt : x < (s + 1) * (s + 1)

-- the whole root, counted upward: it grows by one exactly at each square
unfoldable pub root_of : ℕ → ℕ
root_of zero = 0
root_of (suc n) = let s = root_of n in if nat_le ((s + 1) * (s + 1)) (suc n) then s + 1 else s
