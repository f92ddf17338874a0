-- What is nothing stays nothing: a contact without spin, without displacement and slip, and without a tangential force.
use Rattle.std.proofs.Common.{◌≡◌, ℕ, ℤ, pos, ◌*◌, true, refl, ap, ap₂, ◌∙◌, arith}
use Rattle.std.specs.Prelude.{◌-ℤ◌, ◌*ℤ◌, nat_le, ◌==◌, if◌then◌else◌}
use Rattle.std.proofs.lemmas.Bool.Decides.{nat_tests}
use Rattle.dem_num.specs.declared.vector.Vec3.{Vec3}
use Rattle.dem_num.specs.declared.vector.Wide3.{Wide3}
use Rattle.dem_num.specs.Numbers.{shifted, clamped, opposite, root_of}
use Rattle.dem_num.specs.Vectors.{widened, narrowed, is_zero, no_vector, difference_of, opposed, scaled, shifted_each, dot_of, turn_product, cross_of, norm2_of}
use Rattle.dem_turn.proofs.StillFacts.{is_zero-no_vector}
use Rattle.dem_model.specs.Law.{along, along_normal, across_normal, damping_of, trial_component, trial_of, friction_bound_of, friction_of, held_after, force_of, friction_torque_of, depth_of, torque_a_of, torque_b_of, push_with}
use Rattle.dem_model.specs.declared.law.Law.{Law}
use Rattle.dem_model.specs.declared.law.Push.{Push}
use Rattle.dem_model.specs.declared.law.Side.{Side}
use Rattle.dem_model.specs.declared.limits.TheConstants.{MAX_FORCE}
use Rattle.dem_force.proofs.SlideFacts.{cross_zero}

times_nothing : (a : ℤ) → a *ℤ pos 0 ≡ pos 0
times_nothing a = grind arith

nothing_times : (a : ℤ) → pos 0 *ℤ a ≡ pos 0
nothing_times a = grind arith

shifted_nothing14 : shifted_each no_vector 14 ≡ no_vector
unfolding shifted
shifted_nothing14 = refl

shifted_nothing30 : shifted_each no_vector 30 ≡ no_vector
unfolding shifted
shifted_nothing30 = refl

shifted_nothing32 : shifted (pos 0) 32 ≡ pos 0
unfolding shifted
shifted_nothing32 = refl

-- what no spin sweeps
pub swept_zero : (w b : Wide3) → is_zero w ≡ true → shifted_each (cross_of w b) 14 ≡ no_vector
swept_zero w b h = ap (λ (v : Wide3). shifted_each v 14) (cross_zero w b h) ∙ shifted_nothing14

dot_nothing : (a : Wide3) → dot_of a no_vector ≡ pos 0
unfolding dot_of
dot_nothing a = grind arith

normal_nothing : (n : Vec3) → along_normal n no_vector ≡ pos 0
unfolding along_normal shifted
normal_nothing n = rw (dot_nothing (widened n)) refl

along_nothing : (n : Vec3) → along (pos 0) n ≡ no_vector
unfolding shifted
along_nothing n = rw (nothing_times n.x, nothing_times n.y, nothing_times n.z) refl

across_nothing : (n : Vec3) → across_normal n no_vector ≡ no_vector
unfolding across_normal
across_nothing n = rw (normal_nothing n) (ap (λ (v : Wide3). difference_of no_vector v) (along_nothing n))

-- nothing has no part across the normal
pub across_zero : (n : Vec3) (u : Wide3) → is_zero u ≡ true → across_normal n u ≡ no_vector
across_zero n u h = ap (across_normal n) (is_zero-no_vector u h) ∙ across_nothing n

damping_nothing : (ratio stiffness c mass : ℕ) → damping_of ratio stiffness c mass (pos 0) ≡ pos 0
unfolding damping_of
damping_nothing ratio stiffness c mass = ap (λ (z : ℤ). shifted z 32) (times_nothing (pos (ratio * root_of (stiffness * c * mass)))) ∙ shifted_nothing32

clamped_nothing : clamped (opposite (pos 0) -ℤ pos 0) (pos MAX_FORCE) ≡ pos 0
unfolding clamped opposite
clamped_nothing = refl

component_nothing : (kt bt c mass : ℕ) → trial_component kt bt c mass (pos 0) (pos 0) ≡ pos 0
unfolding trial_component
component_nothing kt bt c mass =
    ap (λ (z : ℤ). clamped (opposite (shifted z 32) -ℤ damping_of bt kt c mass (pos 0)) (pos MAX_FORCE)) (times_nothing (pos (kt * c)))
    ∙ ap (λ (z : ℤ). clamped (opposite z -ℤ damping_of bt kt c mass (pos 0)) (pos MAX_FORCE)) shifted_nothing32
    ∙ ap (λ (z : ℤ). clamped (opposite (pos 0) -ℤ z) (pos MAX_FORCE)) (damping_nothing bt kt c mass)
    ∙ clamped_nothing

abbrev trials : Law → ℕ → ℕ → Wide3 → Wide3 → Wide3
trials law c mass u v = record {
  x = trial_component law.kt law.bt c mass u.x v.x;
  y = trial_component law.kt law.bt c mass u.y v.y;
  z = trial_component law.kt law.bt c mass u.z v.z;
}

trials_nothing : (law : Law) (c mass : ℕ) → trials law c mass no_vector no_vector ≡ no_vector
trials_nothing law c mass = rw (component_nothing law.kt law.bt c mass) refl

-- no force resists a contact that has not moved across the normal
pub trial_zero : (law : Law) (c mass : ℕ) (h : Vec3) (slip : Wide3) → is_zero (widened h) ≡ true → is_zero slip ≡ true → trial_of law c mass h slip ≡ no_vector
unfolding trial_of
trial_zero law c mass h slip eh es = ap₂ (trials law c mass) (is_zero-no_vector (widened h) eh) (is_zero-no_vector slip es) ∙ trials_nothing law c mass

root_nothing : root_of (norm2_of no_vector) ≡ 0
unfolding root_of norm2_of
root_nothing = refl

nothing_within : (bound : ℕ) → nat_le (root_of (norm2_of no_vector)) bound ≡ true
nothing_within bound = rw (root_nothing) (grind (arith, nat_tests))

friction_nothing : (bound : ℕ) → friction_of bound no_vector ≡ no_vector
unfolding friction_of
friction_nothing bound = rw (nothing_within bound) refl

held_nothing : (kt bound : ℕ) (h : Vec3) → held_after kt bound no_vector h ≡ (if kt == 0 then narrowed no_vector else h)
unfolding held_after
held_nothing kt bound h = rw (nothing_within bound) refl

turned_none : (a c : ℤ) → turn_product a (pos 0) c (pos 0) ≡ pos 0
unfolding turn_product
turned_none a c = grind arith

cross_none : (a : Wide3) → cross_of a no_vector ≡ no_vector
cross_none a = rw (turned_none a.y a.z, turned_none a.z a.x, turned_none a.x a.y) refl

scaled_none : (k : ℤ) → scaled k no_vector ≡ no_vector
scaled_none k = rw (times_nothing k) refl

torque_nothing : (depth : ℕ) (n : Vec3) → friction_torque_of depth n no_vector ≡ no_vector
unfolding friction_torque_of
torque_nothing depth n =
    ap (λ (v : Wide3). shifted_each (scaled (pos depth) v) 30) (cross_none (widened n))
    ∙ ap (λ (v : Wide3). shifted_each v 30) (scaled_none (pos depth))
    ∙ shifted_nothing30

-- the push of a contact from its force, its friction and its displacement
abbrev push_from : Side → Side → Wide3 → Wide3 → Wide3 → Vec3 → Push
push_from a b force first second h = record {
  force = force;
  torque_a = difference_of (cross_of (widened a.lever) force) first;
  torque_b = difference_of (opposed (cross_of (widened b.lever) force)) second;
  h = h;
}

-- what a contact does without a tangential force
pub push_undragged : (law : Law) (a b : Side) (n : Vec3) (delta normal : ℕ) (h : Vec3) →
    push_with law a b n delta normal h no_vector ≡ push_from a b (force_of n normal no_vector) no_vector no_vector (if law.kt == 0 then narrowed no_vector else h)
unfolding push_with torque_a_of torque_b_of
push_undragged law a b n delta normal h =
    ap (λ (v : Wide3). push_from a b (force_of n normal v) (friction_torque_of (depth_of a.r delta) n v) (friction_torque_of (depth_of b.r delta) n v) (held_after law.kt (friction_bound_of law.mu normal) no_vector h))
    (friction_nothing (friction_bound_of law.mu normal))
    ∙ ap (λ (v : Wide3). push_from a b (force_of n normal no_vector) v (friction_torque_of (depth_of b.r delta) n no_vector) (held_after law.kt (friction_bound_of law.mu normal) no_vector h))
    (torque_nothing (depth_of a.r delta) n)
    ∙ ap (λ (v : Wide3). push_from a b (force_of n normal no_vector) no_vector v (held_after law.kt (friction_bound_of law.mu normal) no_vector h))
    (torque_nothing (depth_of b.r delta) n)
    ∙ ap (push_from a b (force_of n normal no_vector) no_vector no_vector) (held_nothing law.kt (friction_bound_of law.mu normal) h)
