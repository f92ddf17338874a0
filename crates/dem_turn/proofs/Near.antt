-- Quotients rounded toward zero stay near what they are the quotients of.
use Rattle.std.proofs.Common.{◌≡◌, ℕ, ◌*◌, ◌/◌, ◌<◌, ◌≤◌, ℤ, pos, ◌+ℤ◌, ◌-ℤ◌, ◌*ℤ◌, unsigned_abs, int_div, int_rem, arith, ap, div-mul-le_self}
use Rattle.std.proofs.lemmas.Int.{ints, quot-rem, rem_below, unsigned_abs-mul}
use Rattle.dem_num.specs.Numbers.{quotient}
use Rattle.dem_num.proofs.Sizes.{quotient-size}

-- d a is x, rounded toward zero to a multiple of d
pub record IsNear (d : ℕ) (a : ℤ) (x : ℤ) : Type 0 where
  pub close : unsigned_abs (pos d *ℤ a -ℤ x) ≤ d
  pub sum_small : unsigned_abs (pos d *ℤ a +ℤ x) ≤ 2 * unsigned_abs x

from_rest : (q x r : ℤ) (d : ℕ) → q *ℤ pos d +ℤ r ≡ x → unsigned_abs r < d → unsigned_abs (pos d *ℤ q -ℤ x) ≤ d
from_rest q x r d e h = omega (arith, ints)

quotient_close : (x : ℤ) (d : ℕ) → 0 < d → unsigned_abs (pos d *ℤ quotient x (pos d) -ℤ x) ≤ d
unfolding quotient
quotient_close x d p = from_rest (int_div x (pos d)) x (int_rem x (pos d)) d (quot-rem x (pos d)) (rem_below x (pos d) p)

two_sizes : (a x : ℤ) → unsigned_abs a ≤ unsigned_abs x → unsigned_abs (a +ℤ x) ≤ 2 * unsigned_abs x
two_sizes a x h = omega (arith, ints)

times_quotient_le : (x : ℤ) (d : ℕ) → unsigned_abs (pos d *ℤ quotient x (pos d)) ≤ unsigned_abs x
times_quotient_le x d =
    let product : unsigned_abs (pos d *ℤ quotient x (pos d)) ≡ d * unsigned_abs (quotient x (pos d)) = unsigned_abs-mul (pos d) (quotient x (pos d)) in
    let whole : d * unsigned_abs (quotient x (pos d)) ≡ d * (unsigned_abs x / d) = ap (λ (n : ℕ). d * n) (quotient-size x (pos d)) in
    let below : unsigned_abs x / d * d ≤ unsigned_abs x = div-mul-le_self (unsigned_abs x) d in
    omega arith

-- a quotient is near
pub quotient_near : (x : ℤ) (d : ℕ) → 0 < d → IsNear d (quotient x (pos d)) x
quotient_near x d p = record { close = quotient_close x d p; sum_small = two_sizes (pos d *ℤ quotient x (pos d)) x (times_quotient_le x d) }
