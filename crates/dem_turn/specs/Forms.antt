-- Rotations with no division: the quadratic forms under the matrix of a quaternion, and what one step of spin does to them.
use Rattle.std.specs.Prelude.{ℕ, ℤ, pos, ◌*◌, ◌^◌, ◌≤◌, ◌-ℤ◌, ◌*ℤ◌, unsigned_abs}
use Rattle.dem_num.specs.declared.vector.Wide3.{Wide3}
use Rattle.dem_num.specs.declared.vector.Quat.{Quat}
use Rattle.dem_num.specs.Vectors.{difference_of, scaled, dot_of}
use Rattle.dem_num.specs.Rotations.{quat_norm2_of, axial, mixed_sum, mixed_difference}

-- the first row of the forms of a quaternion
abbrev pub form_x : Quat → Wide3
form_x q = record { x = axial q.a q.b q.c q.d; y = mixed_difference q.b q.c q.a q.d; z = mixed_sum q.b q.d q.a q.c }

-- the second row
abbrev pub form_y : Quat → Wide3
form_y q = record { x = mixed_sum q.b q.c q.a q.d; y = axial q.a q.c q.b q.d; z = mixed_difference q.c q.d q.a q.b }

-- the third row
abbrev pub form_z : Quat → Wide3
form_z q = record { x = mixed_difference q.b q.d q.a q.c; y = mixed_sum q.c q.d q.a q.b; z = axial q.a q.d q.b q.c }

-- a vector turned by a quaternion, times the square of the quaternion's length
abbrev pub form_turned : Quat → Wide3 → Wide3
form_turned q o = record { x = dot_of (form_x q) o; y = dot_of (form_y q) o; z = dot_of (form_z q) o }

-- the quaternion of one step of spin, twice as long as one
abbrev pub step_quat : Wide3 → Quat
step_quat w = record { a = pos (2 ^ 31); b = w.x; c = w.y; d = w.z }

-- the square of its length
abbrev pub step_norm2_of : Wide3 → ℕ
step_norm2_of w = quat_norm2_of (step_quat w)

-- how far one step of spin moves a vector, times the square of the step's length
abbrev pub swing_of : Wide3 → Wide3 → Wide3
swing_of w o = difference_of (form_turned (step_quat w) o) (scaled (pos (step_norm2_of w)) o)

-- how far two forms over squared lengths p and t are apart, times both
abbrev pub apart : ℤ → ℕ → ℤ → ℕ → ℕ
apart h p g t = unsigned_abs (h *ℤ pos t -ℤ g *ℤ pos p)

-- each form of one row over p is within 13 / 2^30 of that of the other over t
pub record RowsClose (h : Wide3) (p : ℕ) (g : Wide3) (t : ℕ) : Type 0 where
  pub x : 2 ^ 30 * apart h.x p g.x t ≤ 13 * (p * t)
  pub y : 2 ^ 30 * apart h.y p g.y t ≤ 13 * (p * t)
  pub z : 2 ^ 30 * apart h.z p g.z t ≤ 13 * (p * t)

-- two quaternions of any lengths stand for nearly the same rotation
pub record FormsClose (p t : Quat) : Type 0 where
  pub x : RowsClose (form_x p) (quat_norm2_of p) (form_x t) (quat_norm2_of t)
  pub y : RowsClose (form_y p) (quat_norm2_of p) (form_y t) (quat_norm2_of t)
  pub z : RowsClose (form_z p) (quat_norm2_of p) (form_z t) (quat_norm2_of t)
