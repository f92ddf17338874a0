-- Rotations by a quaternion of any length: the matrix, turned vectors, the quaternion step, the arm and the swing limit.
use Rattle.std.specs.Prelude.{ℕ, ℤ, pos, ◌+◌, ◌*◌, ◌/◌, ◌^◌, ◌≤◌, ◌+ℤ◌, ◌-ℤ◌, ◌*ℤ◌, if◌then◌else◌}
use Rattle.dem_num.specs.declared.vector.Wide3.{Wide3}
use Rattle.dem_num.specs.declared.vector.Quat.{Quat}
use Rattle.dem_num.specs.declared.vector.Rows.{Rows}
use Rattle.dem_num.specs.Numbers.{quotient, opposite, square_of, root_of, AtMost}
use Rattle.dem_num.specs.Vectors.{widened, shifted_each, dot_of, norm2_of, is_zero, Within}

-- the square of a quaternion's length
unfoldable pub quat_norm2_of : Quat → ℕ
quat_norm2_of q = square_of q.a + square_of q.b + square_of q.c + square_of q.d

-- each component is at most m in size
pub record QuatWithin (q : Quat) (m : ℕ) : Type 0 where
  pub a : AtMost q.a m
  pub b : AtMost q.b m
  pub c : AtMost q.c m
  pub d : AtMost q.d m

-- a quaternion that stands for a rotation: its length is from a half to twice that of one
pub record IsOrientation (q : Quat) : Type 0 where
  pub long_enough : 2 ^ 58 ≤ quat_norm2_of q
  pub short_enough : quat_norm2_of q ≤ 2 ^ 62

-- each entry of the matrix is at most m in size
pub record EntriesWithin (rows : Rows) (m : ℕ) : Type 0 where
  pub x : Within (widened rows.x) m
  pub y : Within (widened rows.y) m
  pub z : Within (widened rows.z) m

-- an entry on the diagonal: the real part and its own axis less the two others, squared
unfoldable pub axial : ℤ → ℤ → ℤ → ℤ → ℤ
axial a own other third = a *ℤ a +ℤ own *ℤ own -ℤ other *ℤ other -ℤ third *ℤ third

-- an entry off the diagonal: twice the sum of two products
unfoldable pub mixed_sum : ℤ → ℤ → ℤ → ℤ → ℤ
mixed_sum u v s t = pos 2 *ℤ (u *ℤ v +ℤ s *ℤ t)

-- an entry off the diagonal: twice the difference of two products
unfoldable pub mixed_difference : ℤ → ℤ → ℤ → ℤ → ℤ
mixed_difference u v s t = pos 2 *ℤ (u *ℤ v -ℤ s *ℤ t)

-- an entry of the matrix: that of the quadratic form over the squared length, times 2^30
unfoldable pub matrix_entry_of : ℤ → ℕ → ℤ
matrix_entry_of form norm2 = quotient (form *ℤ pos (2 ^ 30)) (pos norm2)

-- the rotation matrix of a quaternion
unfoldable pub matrix_of : Quat → Rows
matrix_of q = let n = quat_norm2_of q in record {
  x = record {
    x = matrix_entry_of (axial q.a q.b q.c q.d) n;
    y = matrix_entry_of (mixed_difference q.b q.c q.a q.d) n;
    z = matrix_entry_of (mixed_sum q.b q.d q.a q.c) n;
  };
  y = record {
    x = matrix_entry_of (mixed_sum q.b q.c q.a q.d) n;
    y = matrix_entry_of (axial q.a q.c q.b q.d) n;
    z = matrix_entry_of (mixed_difference q.c q.d q.a q.b) n;
  };
  z = record {
    x = matrix_entry_of (mixed_difference q.b q.d q.a q.c) n;
    y = matrix_entry_of (mixed_sum q.c q.d q.a q.b) n;
    z = matrix_entry_of (axial q.a q.d q.b q.c) n;
  };
}

-- a column of the matrix
abbrev pub column_x : Rows → Wide3
column_x m = record { x = m.x.x; y = m.y.x; z = m.z.x }

-- a column of the matrix
abbrev pub column_y : Rows → Wide3
column_y m = record { x = m.x.y; y = m.y.y; z = m.z.y }

-- a column of the matrix
abbrev pub column_z : Rows → Wide3
column_z m = record { x = m.x.z; y = m.y.z; z = m.z.z }

-- a vector of body axes in world axes
unfoldable pub turned_by : Rows → Wide3 → Wide3
turned_by m o = shifted_each (record { x = dot_of (widened m.x) o; y = dot_of (widened m.y) o; z = dot_of (widened m.z) o }) 30

-- a vector of world axes in body axes
unfoldable pub turned_back_by : Rows → Wide3 → Wide3
turned_back_by m t = shifted_each (record { x = dot_of (column_x m) t; y = dot_of (column_y m) t; z = dot_of (column_z m) t }) 30

-- a vector of the body axes of a quaternion in world axes
abbrev pub turned_of : Quat → Wide3 → Wide3
turned_of q o = turned_by (matrix_of q) o

-- the product of a quaternion and a spin, real part
unfoldable pub spun_a : Quat → Wide3 → ℤ
spun_a q w = opposite (q.b *ℤ w.x) -ℤ q.c *ℤ w.y -ℤ q.d *ℤ w.z

-- the product of a quaternion and a spin, along x
unfoldable pub spun_b : Quat → Wide3 → ℤ
spun_b q w = q.a *ℤ w.x +ℤ q.c *ℤ w.z -ℤ q.d *ℤ w.y

-- the product of a quaternion and a spin, along y
unfoldable pub spun_c : Quat → Wide3 → ℤ
spun_c q w = q.a *ℤ w.y +ℤ q.d *ℤ w.x -ℤ q.b *ℤ w.z

-- the product of a quaternion and a spin, along z
unfoldable pub spun_d : Quat → Wide3 → ℤ
spun_d q w = q.a *ℤ w.z +ℤ q.b *ℤ w.y -ℤ q.c *ℤ w.x

-- twice the quaternion and its product with the spin: where it points after the step, at another length
unfoldable pub stepped_of : Quat → Wide3 → Quat
stepped_of q w = record {
  a = pos (2 ^ 31) *ℤ q.a +ℤ spun_a q w;
  b = pos (2 ^ 31) *ℤ q.b +ℤ spun_b q w;
  c = pos (2 ^ 31) *ℤ q.c +ℤ spun_c q w;
  d = pos (2 ^ 31) *ℤ q.d +ℤ spun_d q w;
}

-- the quaternion brought to length one, that is 2^30
unfoldable pub unit_quat_of : Quat → Quat
unit_quat_of t = let r = pos (root_of (quat_norm2_of t)) in record {
  a = quotient (pos (2 ^ 30) *ℤ t.a) r;
  b = quotient (pos (2 ^ 30) *ℤ t.b) r;
  c = quotient (pos (2 ^ 30) *ℤ t.c) r;
  d = quotient (pos (2 ^ 30) *ℤ t.d) r;
}

-- the quaternion after one step with a spin in body axes; it stays where there is no spin
unfoldable pub turn_step_of : Quat → Wide3 → Quat
turn_step_of q w = if is_zero w then q else unit_quat_of (stepped_of q w)

-- how far a sphere's center may be from its clump's position
unfoldable pub arm_of : Wide3 → ℕ
arm_of o = if is_zero o then 0 else root_of (norm2_of o) + 1

-- how far a sphere on an arm may swing in one step, per axis
unfoldable pub swing_limit_of : ℕ → ℕ → ℕ
swing_limit_of spin arm = (2 * spin * arm) / 2 ^ 30 + arm / 2 ^ 24 + 8
