-- How large the components of sums, products and rounded vectors may be.
use Rattle.std.proofs.Common.{ℕ, ◌+◌, ◌*◌, ◌^◌, ◌<◌, ◌≤◌, arith, ℤ, ◌+ℤ◌, ◌-ℤ◌, ◌*ℤ◌, unsigned_abs}
use Rattle.std.proofs.lemmas.Nat.{mul-le}
use Rattle.dem_num.specs.declared.vector.Wide3.{Wide3}
use Rattle.dem_num.specs.Numbers.{AtMost}
use Rattle.dem_num.specs.Vectors.{Within, sum_of, difference_of, scaled, opposed, quotients, shifted_each, clamped_each, dot_of, turn_product, cross_of, norm2_of}
use Rattle.dem_num.proofs.Sizes.{shifted_le, quotient_le, clamped_le, opposite-size, sum_le, difference_le, product_le}

-- a vector within a bound is within a greater one
pub within_wider : (a : Wide3) (m n : ℕ) → Within a m → m ≤ n → Within a n
within_wider a m n h l = record {
  x = let f : unsigned_abs a.x ≤ m = h.x in omega arith;
  y = let f : unsigned_abs a.y ≤ m = h.y in omega arith;
  z = let f : unsigned_abs a.z ≤ m = h.z in omega arith;
}

-- a sum of vectors
pub sum_within : (a b : Wide3) (m n : ℕ) → Within a m → Within b n → Within (sum_of a b) (m + n)
sum_within a b m n h k = record { x = sum_le a.x b.x m n h.x k.x; y = sum_le a.y b.y m n h.y k.y; z = sum_le a.z b.z m n h.z k.z }

-- a difference of vectors
pub difference_within : (a b : Wide3) (m n : ℕ) → Within a m → Within b n → Within (difference_of a b) (m + n)
difference_within a b m n h k = record {
  x = difference_le a.x b.x m n h.x k.x;
  y = difference_le a.y b.y m n h.y k.y;
  z = difference_le a.z b.z m n h.z k.z;
}

-- a vector multiplied by a number
pub scaled_within : (k : ℤ) (a : Wide3) (m n : ℕ) → AtMost k m → Within a n → Within (scaled k a) (m * n)
scaled_within k a m n l h = record {
  x = product_le k a.x m n l h.x;
  y = product_le k a.y m n l h.y;
  z = product_le k a.z m n l h.z;
}

-- the vector that points the other way
pub opposed_within : (a : Wide3) (m : ℕ) → Within a m → Within (opposed a) m
opposed_within a m h = record {
  x = let f : unsigned_abs a.x ≤ m = h.x in omega (arith, opposite-size a.x);
  y = let f : unsigned_abs a.y ≤ m = h.y in omega (arith, opposite-size a.y);
  z = let f : unsigned_abs a.z ≤ m = h.z in omega (arith, opposite-size a.z);
}

-- a divided vector
pub quotients_within : (a : Wide3) (d : ℤ) (n m : ℕ) → 0 < unsigned_abs d → Within a n → n < (m + 1) * unsigned_abs d → Within (quotients a d) m
quotients_within a d n m p h l = record {
  x = let f : unsigned_abs a.x ≤ n = h.x in quotient_le a.x d m p (omega arith);
  y = let f : unsigned_abs a.y ≤ n = h.y in quotient_le a.y d m p (omega arith);
  z = let f : unsigned_abs a.z ≤ n = h.z in quotient_le a.z d m p (omega arith);
}

-- a shifted vector
pub shifted_within : (a : Wide3) (k n m : ℕ) → Within a n → n ≤ m * 2 ^ k → Within (shifted_each a k) m
shifted_within a k n m h l = record {
  x = let f : unsigned_abs a.x ≤ n = h.x in shifted_le a.x k m (omega arith);
  y = let f : unsigned_abs a.y ≤ n = h.y in shifted_le a.y k m (omega arith);
  z = let f : unsigned_abs a.z ≤ n = h.z in shifted_le a.z k m (omega arith);
}

-- a clamped vector is within its bound
pub clamped_within : (a : Wide3) (m : ℤ) → Within (clamped_each a m) (unsigned_abs m)
clamped_within a m = record { x = clamped_le a.x m; y = clamped_le a.y m; z = clamped_le a.z m }

three_products : (a b c d e f : ℤ) (m n : ℕ)
    → unsigned_abs a ≤ m → unsigned_abs b ≤ n → unsigned_abs c ≤ m → unsigned_abs d ≤ n → unsigned_abs e ≤ m → unsigned_abs f ≤ n
    → unsigned_abs (a *ℤ b +ℤ c *ℤ d +ℤ e *ℤ f) ≤ 3 * (m * n)
three_products a b c d e f m n ha hb hc hd he hf =
    let two : unsigned_abs (a *ℤ b +ℤ c *ℤ d) ≤ m * n + m * n = sum_le (a *ℤ b) (c *ℤ d) (m * n) (m * n) (product_le a b m n ha hb) (product_le c d m n hc hd) in
    let all : unsigned_abs (a *ℤ b +ℤ c *ℤ d +ℤ e *ℤ f) ≤ m * n + m * n + m * n = sum_le (a *ℤ b +ℤ c *ℤ d) (e *ℤ f) (m * n + m * n) (m * n) two (product_le e f m n he hf) in
    omega arith

-- the sum of the products of two vectors
pub dot_le : (a b : Wide3) (m n : ℕ) → Within a m → Within b n → AtMost (dot_of a b) (3 * (m * n))
unfolding dot_of
dot_le a b m n h k = three_products a.x b.x a.y b.y a.z b.z m n h.x k.x h.y k.y h.z k.z

-- the difference of two products
pub turn_product_le : (a b c d : ℤ) (m n : ℕ)
    → unsigned_abs a ≤ m → unsigned_abs b ≤ n → unsigned_abs c ≤ m → unsigned_abs d ≤ n
    → unsigned_abs (turn_product a b c d) ≤ 2 * (m * n)
unfolding turn_product
turn_product_le a b c d m n ha hb hc hd =
    let l : unsigned_abs (a *ℤ b -ℤ c *ℤ d) ≤ m * n + m * n = difference_le (a *ℤ b) (c *ℤ d) (m * n) (m * n) (product_le a b m n ha hb) (product_le c d m n hc hd) in
    omega arith

-- the cross product of two vectors
pub cross_within : (a b : Wide3) (m n : ℕ) → Within a m → Within b n → Within (cross_of a b) (2 * (m * n))
cross_within a b m n h k = record {
  x = turn_product_le a.y b.z a.z b.y m n h.y k.z h.z k.y;
  y = turn_product_le a.z b.x a.x b.z m n h.z k.x h.x k.z;
  z = turn_product_le a.x b.y a.y b.x m n h.x k.y h.y k.x;
}

-- the square of the length
pub norm2_le : (a : Wide3) (m : ℕ) → Within a m → norm2_of a ≤ 3 * (m * m)
unfolding norm2_of
norm2_le a m h =
    let x : unsigned_abs a.x * unsigned_abs a.x ≤ m * m = mul-le (unsigned_abs a.x) (unsigned_abs a.x) m m h.x h.x in
    let y : unsigned_abs a.y * unsigned_abs a.y ≤ m * m = mul-le (unsigned_abs a.y) (unsigned_abs a.y) m m h.y h.y in
    let z : unsigned_abs a.z * unsigned_abs a.z ≤ m * m = mul-le (unsigned_abs a.z) (unsigned_abs a.z) m m h.z h.z in
    omega arith
