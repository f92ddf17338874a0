-- One step of spin keeps each offset within its swing limit.
use Rattle.std.proofs.Common.{◌≡◌, ℕ, ◌+◌, ◌*◌, ◌^◌, ◌<◌, ◌≤◌, ℤ, pos, ◌-ℤ◌, ◌*ℤ◌, unsigned_abs, Bool, true, false, if◌then◌else◌, arith, refl, sym, subst}
use Rattle.std.proofs.lemmas.Int.{ints}
use Rattle.std.proofs.lemmas.Nat.{mul-lt}
use Rattle.dem_num.specs.declared.vector.Wide3.{Wide3}
use Rattle.dem_num.specs.declared.vector.Quat.{Quat}
use Rattle.dem_num.specs.Numbers.{root_of}
use Rattle.dem_num.specs.Vectors.{widened, is_zero, no_vector, Within, difference_of, scaled, dot_of, norm2_of}
use Rattle.dem_num.specs.Rotations.{quat_norm2_of, matrix_entry_of, matrix_of, turned_by, turned_of, stepped_of, unit_quat_of, turn_step_of, arm_of, swing_limit_of}
use Rattle.dem_num.proofs.ProductBounds.{le_from_squares}
use Rattle.dem_num.proofs.RootFacts.{root_of-is_root}
use Rattle.dem_turn.specs.Forms.{form_x, form_y, form_z, form_turned, step_norm2_of, RowsClose}
use Rattle.dem_turn.proofs.Close.{floors_swing}
use Rattle.dem_turn.proofs.ExactTurn.{SwingSmall, exact_turn_law, exact_turn_small, step_long}
use Rattle.dem_turn.proofs.Near.{quotient_near}
use Rattle.dem_turn.proofs.OneRow.{IsRowOf, row_moves}
use Rattle.dem_turn.proofs.StillFacts.{is_zero-no_vector}
use Rattle.dem_turn.proofs.Truncation.{truncation_law, unit_some}
use Rattle.dem_turn.proofs.TurnLaws.{stepped_norm2}

entry_near : (n : ℕ) (f : ℤ) → 0 < n → unsigned_abs (pos n *ℤ matrix_entry_of f n -ℤ f *ℤ pos (2 ^ 30)) ≤ n
unfolding matrix_entry_of
entry_near n f p = (quotient_near (f *ℤ pos (2 ^ 30)) n p).close

row_x : (q : Quat) → 0 < quat_norm2_of q → IsRowOf (quat_norm2_of q) (widened (matrix_of q).x) (form_x q)
unfolding matrix_of
row_x q p = let n = quat_norm2_of q in let f = form_x q in record { x = entry_near n f.x p; y = entry_near n f.y p; z = entry_near n f.z p }

row_y : (q : Quat) → 0 < quat_norm2_of q → IsRowOf (quat_norm2_of q) (widened (matrix_of q).y) (form_y q)
unfolding matrix_of
row_y q p = let n = quat_norm2_of q in let f = form_y q in record { x = entry_near n f.x p; y = entry_near n f.y p; z = entry_near n f.z p }

row_z : (q : Quat) → 0 < quat_norm2_of q → IsRowOf (quat_norm2_of q) (widened (matrix_of q).z) (form_z q)
unfolding matrix_of
row_z q p = let n = quat_norm2_of q in let f = form_z q in record { x = entry_near n f.x p; y = entry_near n f.y p; z = entry_near n f.z p }

-- the square of zero's length
no_length : norm2_of no_vector ≡ 0
unfolding norm2_of
no_length = refl

-- an offset is at most as long as its arm
arm_long : (o : Wide3) → norm2_of o ≤ arm_of o * arm_of o
unfolding arm_of
arm_long o = by (is_zero o) refl
  where
    by : (t : Bool) → is_zero o ≡ t → norm2_of o ≤ (if t then 0 else root_of (norm2_of o) + 1) * (if t then 0 else root_of (norm2_of o) + 1)
    by true e = rw (is_zero-no_vector o e, no_length) (omega arith)
    by false e = let above : norm2_of o < (root_of (norm2_of o) + 1) * (root_of (norm2_of o) + 1) = (root_of-is_root (norm2_of o)).next_gt in omega arith

within_arm : (o : Wide3) (arm : ℕ) → norm2_of o ≤ arm * arm → Within o arm
unfolding norm2_of
within_arm o arm h = record {
  x = le_from_squares (unsigned_abs o.x) arm (omega arith);
  y = le_from_squares (unsigned_abs o.y) arm (omega arith);
  z = le_from_squares (unsigned_abs o.z) arm (omega arith);
}

-- the stepped quaternion has some length
pub stepped_some_length : (q : Quat) (w : Wide3) → 0 < quat_norm2_of q → 0 < quat_norm2_of (stepped_of q w)
stepped_some_length q w p =
    let long : 2 ^ 62 ≤ step_norm2_of w = step_long w in
    let some : 0 < quat_norm2_of q * step_norm2_of w = mul-lt 0 0 (quat_norm2_of q) (step_norm2_of w) p (omega arith) in
    let e : quat_norm2_of (stepped_of q w) ≡ quat_norm2_of q * step_norm2_of w = stepped_norm2 q w in
    omega arith

-- the exact change, row by row
exact_small : (q : Quat) (w o : Wide3) (spin arm : ℕ) → Within w spin → norm2_of o ≤ arm * arm
    → SwingSmall (difference_of (form_turned (stepped_of q w) o) (scaled (pos (step_norm2_of w)) (form_turned q o))) (2 * ((quat_norm2_of q * step_norm2_of w) * (spin * arm)))
exact_small q w o spin arm hw ho =
    subst (λ (a : Wide3). SwingSmall a (2 * ((quat_norm2_of q * step_norm2_of w) * (spin * arm)))) (sym (exact_turn_law q w o)) (exact_turn_small q w o spin arm hw ho)

-- what is known of a step, for each row
record IsStep (u q : Quat) (w o : Wide3) (spin arm : ℕ) : Type 0 where
  some : 0 < quat_norm2_of u * (quat_norm2_of q * step_norm2_of w)
  some_new : 0 < quat_norm2_of u
  some_old : 0 < quat_norm2_of q
  close_x : RowsClose (form_x u) (quat_norm2_of u) (form_x (stepped_of q w)) (quat_norm2_of q * step_norm2_of w)
  close_y : RowsClose (form_y u) (quat_norm2_of u) (form_y (stepped_of q w)) (quat_norm2_of q * step_norm2_of w)
  close_z : RowsClose (form_z u) (quat_norm2_of u) (form_z (stepped_of q w)) (quat_norm2_of q * step_norm2_of w)
  small : Within o arm
  exact : SwingSmall (difference_of (form_turned (stepped_of q w) o) (scaled (pos (step_norm2_of w)) (form_turned q o))) (2 * ((quat_norm2_of q * step_norm2_of w) * (spin * arm)))

step_rows : (u q : Quat) (w o : Wide3) (spin arm : ℕ) → IsStep u q w o spin arm → Within (difference_of (turned_of u o) (turned_of q o)) (swing_limit_of spin arm)
unfolding turned_by
step_rows u q w o spin arm h =
    let m = quat_norm2_of u in
    let n = quat_norm2_of q in
    let p = step_norm2_of w in
    let t = stepped_of q w in
    record {
      x = floors_swing (dot_of (widened (matrix_of u).x) o) (dot_of (widened (matrix_of q).x) o) spin arm
          (row_moves m n p spin arm (widened (matrix_of u).x) (widened (matrix_of q).x) (form_x u) (form_x t) (form_x q) o h.some (row_x u h.some_new) (row_x q h.some_old) h.close_x h.small h.exact.x);
      y = floors_swing (dot_of (widened (matrix_of u).y) o) (dot_of (widened (matrix_of q).y) o) spin arm
          (row_moves m n p spin arm (widened (matrix_of u).y) (widened (matrix_of q).y) (form_y u) (form_y t) (form_y q) o h.some (row_y u h.some_new) (row_y q h.some_old) h.close_y h.small h.exact.y);
      z = floors_swing (dot_of (widened (matrix_of u).z) o) (dot_of (widened (matrix_of q).z) o) spin arm
          (row_moves m n p spin arm (widened (matrix_of u).z) (widened (matrix_of q).z) (form_z u) (form_z t) (form_z q) o h.some (row_z u h.some_new) (row_z q h.some_old) h.close_z h.small h.exact.z);
    }

is_step : (q : Quat) (w o : Wide3) (spin : ℕ) → 0 < quat_norm2_of q → Within w spin → IsStep (unit_quat_of (stepped_of q w)) q w o spin (arm_of o)
is_step q w o spin p hw =
    let t = stepped_of q w in
    let u = unit_quat_of t in
    let some = stepped_some_length q w p in
    let new = unit_some t some in
    let close = truncation_law t some in
    let e = stepped_norm2 q w in
    record {
      some = mul-lt 0 0 (quat_norm2_of u) (quat_norm2_of q * step_norm2_of w) new (subst (λ (n : ℕ). 0 < n) e some);
      some_new = new;
      some_old = p;
      close_x = subst (λ (n : ℕ). RowsClose (form_x u) (quat_norm2_of u) (form_x t) n) e close.x;
      close_y = subst (λ (n : ℕ). RowsClose (form_y u) (quat_norm2_of u) (form_y t) n) e close.y;
      close_z = subst (λ (n : ℕ). RowsClose (form_z u) (quat_norm2_of u) (form_z t) n) e close.z;
      small = within_arm o (arm_of o) (arm_long o);
      exact = exact_small q w o spin (arm_of o) hw (arm_long o);
    }

-- a step that turns
pub unit_swings : (q : Quat) (w o : Wide3) (spin : ℕ) → 0 < quat_norm2_of q → Within w spin
    → Within (difference_of (turned_of (unit_quat_of (stepped_of q w)) o) (turned_of q o)) (swing_limit_of spin (arm_of o))
unit_swings q w o spin p hw = step_rows (unit_quat_of (stepped_of q w)) q w o spin (arm_of o) (is_step q w o spin p hw)

no_change : (a : Wide3) (m : ℕ) → Within (difference_of a a) m
no_change a m = record { x = omega (arith, ints); y = omega (arith, ints); z = omega (arith, ints) }

-- each step keeps each offset within its swing limit
pub step_swings : (q : Quat) (w o : Wide3) (spin : ℕ) → 0 < quat_norm2_of q → Within w spin
    → Within (difference_of (turned_of (turn_step_of q w) o) (turned_of q o)) (swing_limit_of spin (arm_of o))
unfolding turn_step_of
step_swings q w o spin p hw = by (is_zero w)
  where
    by : (t : Bool) → Within (difference_of (turned_of (if t then q else unit_quat_of (stepped_of q w)) o) (turned_of q o)) (swing_limit_of spin (arm_of o))
    by true = no_change (turned_of q o) (swing_limit_of spin (arm_of o))
    by false = unit_swings q w o spin p hw

-- a step keeps some length
pub step_some : (q : Quat) (w : Wide3) → 0 < quat_norm2_of q → 0 < quat_norm2_of (turn_step_of q w)
unfolding turn_step_of
step_some q w p = by (is_zero w)
  where
    by : (t : Bool) → 0 < quat_norm2_of (if t then q else unit_quat_of (stepped_of q w))
    by true = p
    by false = unit_some (stepped_of q w) (stepped_some_length q w p)
