-- Vectors: sums, products and what is done axis by axis.
use Rattle.std.specs.Prelude.{ℕ, ℤ, pos, ◌+◌, ◌*◌, ◌+ℤ◌, ◌-ℤ◌, ◌*ℤ◌, unsigned_abs, Bool, ◌&&◌, ◌==◌}
use Rattle.dem_num.specs.declared.vector.Vec3.{Vec3}
use Rattle.dem_num.specs.declared.vector.Wide3.{Wide3}
use Rattle.dem_num.specs.Numbers.{quotient, shifted, clamped, opposite, square_of, AtMost}

-- the same vector, with room for larger components
abbrev pub widened : Vec3 → Wide3
widened a = record { x = a.x; y = a.y; z = a.z }

-- the same vector, kept in the narrower form
abbrev pub narrowed : Wide3 → Vec3
narrowed a = record { x = a.x; y = a.y; z = a.z }

-- one change, made on each axis
abbrev pub per_axis : (ℤ → ℤ) → Wide3 → Wide3
per_axis f a = record { x = f a.x; y = f a.y; z = f a.z }

-- one combination, made on each axis
abbrev pub per_axes : (ℤ → ℤ → ℤ) → Wide3 → Wide3 → Wide3
per_axes f a b = record { x = f a.x b.x; y = f a.y b.y; z = f a.z b.z }

-- the vector of zeros
abbrev pub no_vector : Wide3
no_vector = record { x = pos 0; y = pos 0; z = pos 0 }

-- the sum of two vectors
abbrev pub sum_of : Wide3 → Wide3 → Wide3
sum_of a b = per_axes (λ u v. u +ℤ v) a b

-- the first vector less the second
abbrev pub difference_of : Wide3 → Wide3 → Wide3
difference_of a b = per_axes (λ u v. u -ℤ v) a b

-- the vector, each component multiplied by k
abbrev pub scaled : ℤ → Wide3 → Wide3
scaled k a = per_axis (λ u. k *ℤ u) a

-- the vector that points the other way
abbrev pub opposed : Wide3 → Wide3
opposed a = per_axis opposite a

-- each component divided, rounded toward zero
abbrev pub quotients : Wide3 → ℤ → Wide3
quotients a d = per_axis (λ u. quotient u d) a

-- the floor of each component over two to the power k
abbrev pub shifted_each : Wide3 → ℕ → Wide3
shifted_each a k = per_axis (λ u. shifted u k) a

-- each component brought within m of zero
abbrev pub clamped_each : Wide3 → ℤ → Wide3
clamped_each a m = per_axis (λ u. clamped u m) a

-- the sum of the products, axis by axis
unfoldable pub dot_of : Wide3 → Wide3 → ℤ
dot_of a b = a.x *ℤ b.x +ℤ a.y *ℤ b.y +ℤ a.z *ℤ b.z

-- the sum of the sizes of the products: what the sum of the products can reach
unfoldable pub dot_bound_of : Wide3 → Wide3 → ℕ
dot_bound_of a b = unsigned_abs a.x * unsigned_abs b.x + unsigned_abs a.y * unsigned_abs b.y + unsigned_abs a.z * unsigned_abs b.z

-- one component of a cross product: the difference of two products
unfoldable pub turn_product : ℤ → ℤ → ℤ → ℤ → ℤ
turn_product a b c d = a *ℤ b -ℤ c *ℤ d

-- the cross product
abbrev pub cross_of : Wide3 → Wide3 → Wide3
cross_of a b = record {
  x = turn_product a.y b.z a.z b.y;
  y = turn_product a.z b.x a.x b.z;
  z = turn_product a.x b.y a.y b.x;
}

-- the square of the length: the sum of the squares of the components
unfoldable pub norm2_of : Wide3 → ℕ
norm2_of a = square_of a.x + square_of a.y + square_of a.z

-- whether each component is zero
abbrev pub is_zero : Wide3 → Bool
is_zero a = (unsigned_abs a.x == 0) && (unsigned_abs a.y == 0) && (unsigned_abs a.z == 0)

-- each component is at most m in size
pub record Within (a : Wide3) (m : ℕ) : Type 0 where
  pub x : AtMost a.x m
  pub y : AtMost a.y m
  pub z : AtMost a.z m
