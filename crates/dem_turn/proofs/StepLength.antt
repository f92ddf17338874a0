-- The length of a quaternion before and after a step, in natural numbers.
use Rattle.std.proofs.Common.{◌≡◌, ℕ, ◌+◌, ◌*◌, ◌^◌, ◌<◌, ◌≤◌, unsigned_abs, arith, inl, inr, refl}
use Rattle.std.proofs.lemmas.Bool.{cases_lt}
use Rattle.std.proofs.lemmas.Nat.{mul-le, mul-lt}
use Rattle.dem_num.specs.declared.vector.Quat.{Quat}
use Rattle.dem_num.specs.Numbers.{IsRoot}
use Rattle.dem_num.specs.Rotations.{quat_norm2_of, IsOrientation}
use Rattle.dem_num.proofs.ProductBounds.{drop_factor, le_square, lt_from_squares}

-- a component that is moved by less than it is long does not vanish with all others
some_component : (a b c d t u v w : ℕ)
    → 2 ^ 31 * a ≤ t + (b + c + d) * 2 ^ 28
    → 2 ^ 31 * b ≤ u + (a + c + d) * 2 ^ 28
    → 2 ^ 31 * c ≤ v + (a + d + b) * 2 ^ 28
    → 2 ^ 31 * d ≤ w + (a + b + c) * 2 ^ 28
    → 0 < a + b + c + d
    → 0 < t + u + v + w
some_component a b c d t u v w ha hb hc hd h = omega arith

-- where no component is left, the length is zero
some_length : (a b c d : ℕ) → 0 < a * a + b * b + c * c + d * d → 0 < a + b + c + d
some_length a b c d h = elim (cases_lt 0 (a + b + c + d)) [
  | inl l ↦ l
  | inr g ↦ let x : a * a ≤ 0 * 0 = mul-le a a 0 0 (omega arith) (omega arith) in
      let y : b * b ≤ 0 * 0 = mul-le b b 0 0 (omega arith) (omega arith) in
      let z : c * c ≤ 0 * 0 = mul-le c c 0 0 (omega arith) (omega arith) in
      let w : d * d ≤ 0 * 0 = mul-le d d 0 0 (omega arith) (omega arith) in
      absurd (omega arith)
]

-- the stepped quaternion has some length
pub stepped_some : (a b c d t u v w : ℕ)
    → 2 ^ 58 ≤ a * a + b * b + c * c + d * d
    → 2 ^ 31 * a ≤ t + (b + c + d) * 2 ^ 28
    → 2 ^ 31 * b ≤ u + (a + c + d) * 2 ^ 28
    → 2 ^ 31 * c ≤ v + (a + d + b) * 2 ^ 28
    → 2 ^ 31 * d ≤ w + (a + b + c) * 2 ^ 28
    → 0 < t * t + u * u + v * v + w * w
stepped_some a b c d t u v w n ha hb hc hd =
    let before : 0 < a + b + c + d = some_length a b c d (omega arith) in
    let after : 0 < t + u + v + w = some_component a b c d t u v w ha hb hc hd before in
    omega (arith, le_square t, le_square u, le_square v, le_square w)

square_below : (u a r : ℕ) → u * r ≤ 2 ^ 30 * a → (u * u) * (r * r) ≤ 2 ^ 60 * (a * a)
square_below u a r h = let s : (u * r) * (u * r) ≤ (2 ^ 30 * a) * (2 ^ 30 * a) = mul-le (u * r) (u * r) (2 ^ 30 * a) (2 ^ 30 * a) h h in omega arith

square_above : (u a r : ℕ) → 2 ^ 30 * a < (u + 1) * r → 2 ^ 60 * (a * a) ≤ ((u + 1) * (u + 1)) * (r * r)
square_above u a r h = let s : (2 ^ 30 * a) * (2 ^ 30 * a) ≤ ((u + 1) * r) * ((u + 1) * r) = mul-le (2 ^ 30 * a) (2 ^ 30 * a) ((u + 1) * r) ((u + 1) * r) (omega arith) (omega arith) in omega arith

-- the next square is at most four times the square
next_square_le : (r : ℕ) → 0 < r → (r + 1) * (r + 1) ≤ 4 * (r * r)
next_square_le r p = let s : (r + 1) * (r + 1) ≤ (2 * r) * (2 * r) = mul-le (r + 1) (r + 1) (2 * r) (2 * r) (omega arith) (omega arith) in omega arith

-- shares of a length, rounded down, are not too long
pub shares_short : (a b c d u v x y r n : ℕ) → n ≡ a * a + b * b + c * c + d * d → IsRoot n r → 0 < r
    → u * r ≤ 2 ^ 30 * a → v * r ≤ 2 ^ 30 * b → x * r ≤ 2 ^ 30 * c → y * r ≤ 2 ^ 30 * d
    → u * u + v * v + x * x + y * y ≤ 2 ^ 62
shares_short a b c d u v x y r n e root p hu hv hx hy =
    let above : n < (r + 1) * (r + 1) = root.next_gt in
    let four : (r + 1) * (r + 1) ≤ 4 * (r * r) = next_square_le r p in
    let su : (u * u) * (r * r) ≤ 2 ^ 60 * (a * a) = square_below u a r hu in
    let sv : (v * v) * (r * r) ≤ 2 ^ 60 * (b * b) = square_below v b r hv in
    let sx : (x * x) * (r * r) ≤ 2 ^ 60 * (c * c) = square_below x c r hx in
    let sy : (y * y) * (r * r) ≤ 2 ^ 60 * (d * d) = square_below y d r hy in
    let some : 0 < r * r = mul-lt 0 0 r r p p in
    drop_factor (u * u + v * v + x * x + y * y) (2 ^ 62) (r * r) (omega arith) some

-- shares of a length, rounded down, are not too short
pub shares_long : (a b c d u v x y r n : ℕ) → n ≡ a * a + b * b + c * c + d * d → IsRoot n r → 0 < r
    → 2 ^ 30 * a < (u + 1) * r → 2 ^ 30 * b < (v + 1) * r → 2 ^ 30 * c < (x + 1) * r → 2 ^ 30 * d < (y + 1) * r
    → 2 ^ 58 ≤ u * u + v * v + x * x + y * y
shares_long a b c d u v x y r n e root p hu hv hx hy =
    let below : r * r ≤ n = root.square_le in
    let su : 2 ^ 60 * (a * a) ≤ ((u + 1) * (u + 1)) * (r * r) = square_above u a r hu in
    let sv : 2 ^ 60 * (b * b) ≤ ((v + 1) * (v + 1)) * (r * r) = square_above v b r hv in
    let sx : 2 ^ 60 * (c * c) ≤ ((x + 1) * (x + 1)) * (r * r) = square_above x c r hx in
    let sy : 2 ^ 60 * (d * d) ≤ ((y + 1) * (y + 1)) * (r * r) = square_above y d r hy in
    let some : 0 < r * r = mul-lt 0 0 r r p p in
    let all : 2 ^ 60 ≤ (u + 1) * (u + 1) + (v + 1) * (v + 1) + (x + 1) * (x + 1) + (y + 1) * (y + 1) =
    drop_factor (2 ^ 60) ((u + 1) * (u + 1) + (v + 1) * (v + 1) + (x + 1) * (x + 1) + (y + 1) * (y + 1)) (r * r) (omega arith) some in
    elim (cases_lt (u * u + v * v + x * x + y * y) (2 ^ 58)) [
      | inl l ↦ let lu : u < 2 ^ 29 = lt_from_squares u (2 ^ 29) (omega arith) in
          let lv : v < 2 ^ 29 = lt_from_squares v (2 ^ 29) (omega arith) in
          let lx : x < 2 ^ 29 = lt_from_squares x (2 ^ 29) (omega arith) in
          let ly : y < 2 ^ 29 = lt_from_squares y (2 ^ 29) (omega arith) in
          absurd (omega arith)
      | inr g ↦ g
    ]

-- each component is its share of the length, rounded toward zero
pub record IsShare (u a r : ℕ) : Type 0 where
  pub below : u * r ≤ 2 ^ 30 * a
  pub above : 2 ^ 30 * a < (u + 1) * r

-- a quaternion of shares stands for a rotation
pub shares_orientation : (t u : Quat) (r : ℕ) → IsRoot (quat_norm2_of t) r → 0 < r
    → IsShare (unsigned_abs u.a) (unsigned_abs t.a) r
    → IsShare (unsigned_abs u.b) (unsigned_abs t.b) r
    → IsShare (unsigned_abs u.c) (unsigned_abs t.c) r
    → IsShare (unsigned_abs u.d) (unsigned_abs t.d) r
    → IsOrientation u
unfolding quat_norm2_of
shares_orientation t u r root p a b c d = record {
  long_enough = shares_long (unsigned_abs t.a) (unsigned_abs t.b) (unsigned_abs t.c) (unsigned_abs t.d) (unsigned_abs u.a) (unsigned_abs u.b) (unsigned_abs u.c) (unsigned_abs u.d) r _ refl root p a.above b.above c.above d.above;
  short_enough = shares_short (unsigned_abs t.a) (unsigned_abs t.b) (unsigned_abs t.c) (unsigned_abs t.d) (unsigned_abs u.a) (unsigned_abs u.b) (unsigned_abs u.c) (unsigned_abs u.d) r _ refl root p a.below b.below c.below d.below;
}
