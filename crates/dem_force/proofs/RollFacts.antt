-- Rolling resistance: its sizes, and where there is none.
use Rattle.std.proofs.Common.{◌≡◌, ℕ, ℤ, pos, ◌+◌, ◌*◌, ◌^◌, ◌≤◌, true, false, refl, ap, ap₂, ◌∙◌, sym, arith, inl, inr, unsigned_abs}
use Rattle.std.specs.Prelude.{◌-ℤ◌, ◌*ℤ◌, ◌==◌, if◌then◌else◌}
use Rattle.std.proofs.lemmas.Bool.{cases_Bool}
use Rattle.std.proofs.Math.Nat.{zero-div}
use Rattle.dem_num.specs.declared.vector.Vec3.{Vec3}
use Rattle.dem_num.specs.declared.vector.Wide3.{Wide3}
use Rattle.dem_num.specs.Numbers.{AtMost, quotient, opposite, shifted, root_of}
use Rattle.dem_num.specs.Vectors.{widened, no_vector, sum_of, difference_of, opposed, quotients, scaled, shifted_each, dot_of, cross_of, norm2_of, Within}
use Rattle.dem_num.proofs.Sizes.{quotient-size, shifted_le}
use Rattle.dem_num.proofs.RootFacts.{le_root}
use Rattle.dem_num.proofs.VectorSizes.{within_wider, difference_within, scaled_within, shifted_within, dot_le}
use Rattle.dem_turn.proofs.StillFacts.{sum_nothing}
use Rattle.dem_model.specs.Law.{along, along_normal, across_normal, depth_of, friction_torque_of, torque_b_of, push_with, rolling_bound_of, resistance_of, roll_of, rolling_of, with_rolling}
use Rattle.dem_model.specs.Mixing.{radius_between}
use Rattle.dem_model.specs.Ranges.{IsSecond, IsSmall, wall_side_of}
use Rattle.dem_model.specs.declared.law.Law.{Law}
use Rattle.dem_model.specs.declared.law.Push.{Push}
use Rattle.dem_model.specs.declared.law.Side.{Side}
use Rattle.dem_force.specs.Unrolled.{IsUnrolled}
use Rattle.dem_force.proofs.SlideFacts.{cross_zero}

-- the part of a vector along the normal is at most three times the vector's size
along_normal_le : (n : Vec3) (u : Wide3) (m : ℕ) → Within (widened n) (2 ^ 30) → Within u m → AtMost (along_normal n u) (3 * m)
unfolding along_normal
along_normal_le n u m hn hu =
    let most : unsigned_abs (dot_of (widened n) u) ≤ 3 * (2 ^ 30 * m) = dot_le (widened n) u (2 ^ 30) m hn hu in
    shifted_le (dot_of (widened n) u) 30 (3 * m) (omega arith)

-- a vector along the normal is no longer than its length says
along_within : (length : ℤ) (n : Vec3) (m : ℕ) → AtMost length m → Within (widened n) (2 ^ 30) → Within (along length n) m
along_within length n m hl hn =
    shifted_within (scaled length (widened n)) 30 (m * 2 ^ 30) m (scaled_within length (widened n) m (2 ^ 30) hl hn) (omega arith)

-- a vector less its part along the normal is at most four times as great
pub across_within : (n : Vec3) (u : Wide3) (m : ℕ) → Within (widened n) (2 ^ 30) → Within u m → Within (across_normal n u) (m + 3 * m)
unfolding across_normal
across_within n u m hn hu =
    difference_within u (along (along_normal n u) n) m (3 * m) hu (along_within (along_normal n u) n (3 * m) (along_normal_le n u m hn hu) hn)

-- each component is within the length
pub part_in_size : (a : Wide3) → Within a (root_of (norm2_of a))
unfolding norm2_of
part_in_size a = record {
  x = le_root _ (unsigned_abs a.x) (omega arith);
  y = le_root _ (unsigned_abs a.y) (omega arith);
  z = le_root _ (unsigned_abs a.z) (omega arith);
}

no_size : (z : ℤ) → unsigned_abs z ≡ 0 → z ≡ pos 0
no_size z h = grind arith

nothing_times : (a : ℤ) → pos 0 *ℤ a ≡ pos 0
nothing_times a = grind arith

quotient_nothing : (m : ℤ) → quotient (pos 0) m ≡ pos 0
quotient_nothing m = no_size (quotient (pos 0) m) (quotient-size (pos 0) m ∙ zero-div (unsigned_abs m))

opposite_nothing : opposite (pos 0) ≡ pos 0
unfolding opposite
opposite_nothing = refl

share_nothing : (z k : ℤ) → opposite (quotient (pos 0 *ℤ z) k) ≡ pos 0
share_nothing z k = ap (λ (v : ℤ). opposite (quotient v k)) (nothing_times z) ∙ ap opposite (quotient_nothing k) ∙ opposite_nothing

shares_nothing : (roll : Wide3) (k : ℤ) → opposed (quotients (scaled (pos 0) roll) k) ≡ no_vector
shares_nothing roll k = rw (share_nothing roll.x k, share_nothing roll.y k, share_nothing roll.z k) refl

-- a bound of nothing resists nothing
resistance_nothing : (roll : Wide3) → resistance_of 0 roll ≡ no_vector
unfolding resistance_of
resistance_nothing roll = elim (cases_Bool (root_of (norm2_of roll) == 0)) [
  | inl t ↦ rw t refl
  | inr f ↦ rw f (shares_nothing roll (pos (root_of (norm2_of roll))))
]

bound_nothing : (mr force radius : ℕ) → mr ≡ 0 → rolling_bound_of mr force radius ≡ 0
unfolding rolling_bound_of
bound_nothing mr force radius h = rw h (grind arith)

-- without a ratio nothing resists rolling
pub rolling_nothing : (law : Law) (a b : Side) (n : Vec3) (force : ℕ) → law.mr ≡ 0 → rolling_of law a b n force ≡ no_vector
unfolding rolling_of
rolling_nothing law a b n force h =
    ap (λ (k : ℕ). resistance_of k (roll_of a b n)) (bound_nothing law.mr force (radius_between a b) h) ∙ resistance_nothing (roll_of a b n)

minus_nothing : (z : ℤ) → z -ℤ pos 0 ≡ z
minus_nothing z = grind arith

difference_nothing : (a : Wide3) → difference_of a no_vector ≡ a
difference_nothing a = rw (minus_nothing a.x, minus_nothing a.y, minus_nothing a.z) refl

second_nothing : (b : Side) (t : Wide3) → (b.wall ≡ true → t ≡ no_vector) → (if b.wall then no_vector else difference_of t no_vector) ≡ t
second_nothing b t still = elim (cases_Bool b.wall) [
  | inl w ↦ rw w (sym (still w))
  | inr w ↦ rw w (difference_nothing t)
]

-- a push that nothing resists stays as it is
pub resting : (b : Side) (p : Push) → (b.wall ≡ true → p.torque_b ≡ no_vector) → with_rolling b no_vector p ≡ p
unfolding with_rolling
resting b p still =
    ap₂ (λ (u v : Wide3). record { force = p.force; torque_a = u; torque_b = v; h = p.h }) (sum_nothing p.torque_a) (second_nothing b p.torque_b still)

-- a push whose torques are those of two resisted sides
pub resisted_is : (b : Side) (rolling : Wide3) (p : Push) (first second : Wide3) → first ≡ sum_of p.torque_a rolling
    → second ≡ (if b.wall then no_vector else difference_of p.torque_b rolling)
    → record { force = p.force; torque_a = first; torque_b = second; h = p.h } ≡ with_rolling b rolling p
unfolding with_rolling
resisted_is b rolling p first second e f = ap₂ (λ (u v : Wide3). record { force = p.force; torque_a = u; torque_b = v; h = p.h }) e f

deep_nothing : (delta : ℕ) → depth_of 0 delta ≡ 0
unfolding depth_of
deep_nothing delta = omega arith

scaled_nothing : (a : Wide3) → scaled (pos 0) a ≡ no_vector
scaled_nothing a = rw (nothing_times a.x, nothing_times a.y, nothing_times a.z) refl

shifted_nothing : shifted_each no_vector 30 ≡ no_vector
unfolding shifted
shifted_nothing = refl

rub_nothing : (delta : ℕ) (n : Vec3) (friction : Wide3) → friction_torque_of (depth_of 0 delta) n friction ≡ no_vector
unfolding friction_torque_of
rub_nothing delta n friction =
    ap (λ (k : ℕ). shifted_each (scaled (pos k) (cross_of (widened n) friction)) 30) (deep_nothing delta)
    ∙ ap (λ (v : Wide3). shifted_each v 30) (scaled_nothing (cross_of (widened n) friction))
    ∙ shifted_nothing

opposed_nothing : opposed no_vector ≡ no_vector
unfolding opposite
opposed_nothing = refl

wall_torque : (n : Vec3) (delta : ℕ) (force friction : Wide3) → torque_b_of wall_side_of n delta force friction ≡ no_vector
unfolding torque_b_of
wall_torque n delta force friction =
    ap₂ (λ (u v : Wide3). difference_of (opposed u) v) (cross_zero no_vector force refl) (rub_nothing delta n friction)
    ∙ ap (λ (u : Wide3). difference_of u no_vector) opposed_nothing

-- a contact turns no wall
pub wall_rests : (law : Law) (a b : Side) (n : Vec3) (delta force : ℕ) (h : Vec3) (trial : Wide3) → IsSecond b → b.wall ≡ true
    → (push_with law a b n delta force h trial).torque_b ≡ no_vector
unfolding push_with
wall_rests law a b n delta force h trial (inl e) w = rw e (wall_torque n delta _ _)
wall_rests law a b n delta force h trial (inr f) w = let no : b.wall ≡ false = f.no_wall in cc

-- without rolling resistance a push is within the sizes of a push
pub unrolled_small : (p : Push) → IsUnrolled p → IsSmall p
unrolled_small p u = record {
  force = u.force;
  torque_a = within_wider p.torque_a (2 ^ 92 + 2 ^ 89) (2 ^ 93) u.torque_a (omega arith);
  torque_b = within_wider p.torque_b (2 ^ 92 + 2 ^ 89) (2 ^ 93) u.torque_b (omega arith);
  h = u.h;
}
