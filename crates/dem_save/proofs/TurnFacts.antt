-- A step of spin leaves a quaternion that turns: its squared length stays in its range.
use Rattle.std.proofs.Common.{◌≡◌, ◌∙◌, ℕ, ◌+◌, ◌*◌, ◌/◌, ◌%◌, ◌^◌, ◌<◌, ◌≤◌, ℤ, pos, ◌*ℤ◌, unsigned_abs, Bool, true, false, if◌then◌else◌, ap, arith, div-mul-le_self}
use Rattle.std.proofs.lemmas.Int.{unsigned_abs-mul}
use Rattle.std.proofs.lemmas.Nat.{div-add-mod', mod_below}
use Rattle.dem_num.specs.declared.vector.Quat.{Quat}
use Rattle.dem_num.specs.declared.vector.Wide3.{Wide3}
use Rattle.dem_num.specs.Numbers.{root_of, quotient}
use Rattle.dem_num.specs.Vectors.{is_zero}
use Rattle.dem_num.specs.Rotations.{quat_norm2_of, IsOrientation, stepped_of, unit_quat_of, turn_step_of}
use Rattle.dem_num.proofs.RootFacts.{root_of-is_root, root_positive}
use Rattle.dem_num.proofs.Sizes.{quotient-size}
use Rattle.dem_turn.proofs.StepLength.{IsShare, shares_orientation}
use Rattle.dem_turn.proofs.StepSwing.{stepped_some_length}

-- a quotient rounded down is a share
whole_share : (n r : ℕ) → 0 < r → n < (n / r + 1) * r
whole_share n r some =
    let whole : n / r * r + n % r ≡ n = div-add-mod' n r in
    let rest : n % r < r = mod_below n r some in
    omega arith

-- a component's share of the length
component_share : (e : ℤ) (r : ℕ) → 0 < r → IsShare (unsigned_abs (quotient (pos (2 ^ 30) *ℤ e) (pos r))) (unsigned_abs e) r
component_share e r some =
    let size : unsigned_abs (pos (2 ^ 30) *ℤ e) ≡ 2 ^ 30 * unsigned_abs e = unsigned_abs-mul (pos (2 ^ 30)) e in
    let share : unsigned_abs (quotient (pos (2 ^ 30) *ℤ e) (pos r)) ≡ 2 ^ 30 * unsigned_abs e / r = quotient-size (pos (2 ^ 30) *ℤ e) (pos r) ∙ ap (λ (n : ℕ). n / r) size in
    rw share (record { below = div-mul-le_self (2 ^ 30 * unsigned_abs e) r; above = whole_share (2 ^ 30 * unsigned_abs e) r some })

-- a quaternion brought to length one turns
unit-orientation : (t : Quat) → 0 < quat_norm2_of t → IsOrientation (unit_quat_of t)
unfolding unit_quat_of
unit-orientation t h =
    let r = root_of (quat_norm2_of t) in
    let some : 0 < r = root_positive (quat_norm2_of t) h in
    shares_orientation t _ r (root_of-is_root (quat_norm2_of t)) some (component_share t.a r some) (component_share t.b r some) (component_share t.c r some) (component_share t.d r some)

-- so does one after a step of spin
pub turn-orientation : (q : Quat) (w : Wide3) → IsOrientation q → IsOrientation (turn_step_of q w)
unfolding turn_step_of
turn-orientation q w h = by (is_zero w)
  where
    by : (t : Bool) → IsOrientation (if t then q else unit_quat_of (stepped_of q w))
    by true = h
    by false = let long : 2 ^ 58 ≤ quat_norm2_of q = h.long_enough in unit-orientation (stepped_of q w) (stepped_some_length q w (omega arith))
