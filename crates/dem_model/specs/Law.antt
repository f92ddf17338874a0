-- The contact law: elastic and damped along the normal, elastic, damped and bounded by friction across it, and a torque against rolling.
use Rattle.std.specs.Prelude.{ℕ, ℤ, pos, ◌-◌, ◌*◌, ◌/◌, ◌^◌, ◌-ℤ◌, ◌*ℤ◌, ◌==◌, nat_le, unsigned_abs, if◌then◌else◌}
use Rattle.std.specs.Int.{int_max, int_min}
use Rattle.dem_num.specs.declared.vector.Vec3.{Vec3}
use Rattle.dem_num.specs.declared.vector.Wide3.{Wide3}
use Rattle.dem_num.specs.Numbers.{shifted, clamped, opposite, root_of}
use Rattle.dem_num.specs.Vectors.{widened, narrowed, no_vector, sum_of, difference_of, scaled, opposed, quotients, shifted_each, clamped_each, dot_of, cross_of, norm2_of}
use Rattle.dem_model.specs.declared.law.Law.{Law}
use Rattle.dem_model.specs.declared.law.Push.{Push}
use Rattle.dem_model.specs.declared.law.Side.{Side}
use Rattle.dem_model.specs.declared.law.Touch.{Touch}
use Rattle.dem_model.specs.declared.limits.TheConstants.{MAX_DISPLACEMENT, MAX_FORCE}
use Rattle.dem_model.specs.Mixing.{radius_between, mass_between}

-- the radius of the contact's circle: the root of the effective radius times the overlap
unfoldable pub contact_radius_of : ℕ → ℕ → ℕ
contact_radius_of radius delta = root_of (radius * delta)

-- from a sphere's center to the contact: the radius less half the overlap
unfoldable pub depth_of : ℕ → ℕ → ℕ
depth_of r delta = r - delta / 2

-- a vector along the normal, of a length given in u
abbrev pub along : ℤ → Vec3 → Wide3
along length n = shifted_each (scaled length (widened n)) 30

-- from the first clump's position to the contact
unfoldable pub branch_a_of : Side → Vec3 → ℕ → Wide3
branch_a_of a n delta = difference_of (widened a.lever) (along (pos (depth_of a.r delta)) n)

-- from the second clump's position to the contact
unfoldable pub branch_b_of : Side → Vec3 → ℕ → Wide3
branch_b_of b n delta = sum_of (widened b.lever) (along (pos (depth_of b.r delta)) n)

-- the velocity of a side at the contact: that of its clump and that of its spin on the branch
unfoldable pub surface_velocity_of : Side → Wide3 → Wide3
surface_velocity_of side branch = sum_of (widened side.v) (shifted_each (cross_of (widened side.spin) branch) 14)

-- the velocity of the first side against the second; a wall has none
unfoldable pub relative_velocity_of : Side → Side → Vec3 → ℕ → Wide3
relative_velocity_of a b n delta =
    difference_of (surface_velocity_of a (branch_a_of a n delta)) (surface_velocity_of b (branch_b_of b n delta))

-- the part of a vector along the normal, as a number
unfoldable pub along_normal : Vec3 → Wide3 → ℤ
along_normal n u = shifted (dot_of (widened n) u) 30

-- a vector less its part along the normal
unfoldable pub across_normal : Vec3 → Wide3 → Wide3
across_normal n u = difference_of u (along (along_normal n u) n)

-- the elastic force: stiffness times the contact radius times the overlap
unfoldable pub elastic_force_of : ℕ → ℕ → ℕ → ℤ
elastic_force_of kn c delta = shifted (pos (kn * c * delta)) 16

-- the damping force per component: grows with the speed and the root of stiffness, contact radius and mass
unfoldable pub damping_of : ℕ → ℕ → ℕ → ℕ → ℤ → ℤ
damping_of ratio stiffness c mass speed = shifted (pos (ratio * root_of (stiffness * c * mass)) *ℤ speed) 32

-- the normal force: elastic less damping, never pulling
unfoldable pub normal_force_of : Law → ℕ → ℕ → ℕ → ℤ → ℕ
normal_force_of law c delta mass speed =
    unsigned_abs (int_max (pos 0) (int_min (elastic_force_of law.kn c delta -ℤ damping_of law.bn law.kn c mass speed) (pos MAX_FORCE)))

-- the displacement carried into this step: what is stored, brought across the normal, and what the step adds
unfoldable pub carried_of : Vec3 → Wide3 → Vec3 → Vec3
carried_of n slip h0 = narrowed (clamped_each (sum_of (across_normal n (widened h0)) slip) (pos MAX_DISPLACEMENT))

-- a component of the tangential force before friction bounds it
unfoldable pub trial_component : ℕ → ℕ → ℕ → ℕ → ℤ → ℤ → ℤ
trial_component kt bt c mass h slip =
    clamped (opposite (shifted (pos (kt * c) *ℤ h) 32) -ℤ damping_of bt kt c mass slip) (pos MAX_FORCE)

-- the tangential force before friction bounds it: elastic and damped
unfoldable pub trial_of : Law → ℕ → ℕ → Vec3 → Wide3 → Wide3
trial_of law c mass h slip = record {
  x = trial_component law.kt law.bt c mass h.x slip.x;
  y = trial_component law.kt law.bt c mass h.y slip.y;
  z = trial_component law.kt law.bt c mass h.z slip.z;
}

-- Coulomb's bound on the tangential force
unfoldable pub friction_bound_of : ℕ → ℕ → ℕ
friction_bound_of mu force = (mu * force) / 2 ^ 16

-- the tangential force: the trial where it sticks, else shortened to the bound
unfoldable pub friction_of : ℕ → Wide3 → Wide3
friction_of bound trial =
    let size = root_of (norm2_of trial) in
    if nat_le size bound then trial else quotients (scaled (pos bound) trial) (pos size)

-- the new displacement: that carried where it sticks, else shortened as the force is; none without tangential stiffness
unfoldable pub held_after : ℕ → ℕ → Wide3 → Vec3 → Vec3
held_after kt bound trial h =
    let size = root_of (norm2_of trial) in
    if kt == 0 then narrowed no_vector
    else (if nat_le size bound then h else narrowed (quotients (scaled (pos bound) (widened h)) (pos size)))

-- the force on the first: the normal force along the normal, and friction
unfoldable pub force_of : Vec3 → ℕ → Wide3 → Wide3
force_of n normal_force friction = sum_of (along (pos normal_force) n) friction

-- the torque of friction about a sphere's center, which both sides feel the same way
unfoldable pub friction_torque_of : ℕ → Vec3 → Wide3 → Wide3
friction_torque_of depth n friction = shifted_each (scaled (pos depth) (cross_of (widened n) friction)) 30

-- the torque on the first clump about its position
unfoldable pub torque_a_of : Side → Vec3 → ℕ → Wide3 → Wide3 → Wide3
torque_a_of a n delta force friction =
    difference_of (cross_of (widened a.lever) force) (friction_torque_of (depth_of a.r delta) n friction)

-- the torque on the second clump about its position
unfoldable pub torque_b_of : Side → Vec3 → ℕ → Wide3 → Wide3 → Wide3
torque_b_of b n delta force friction =
    difference_of (opposed (cross_of (widened b.lever) force)) (friction_torque_of (depth_of b.r delta) n friction)

-- the force and the torques of a contact whose normal force, trial and displacement are known, without rolling resistance
unfoldable pub push_with : Law → Side → Side → Vec3 → ℕ → ℕ → Vec3 → Wide3 → Push
push_with law a b n delta normal_force h trial =
    let bound = friction_bound_of law.mu normal_force in
    let friction = friction_of bound trial in
    let force = force_of n normal_force friction in
    record {
      force = force;
      torque_a = torque_a_of a n delta force friction;
      torque_b = torque_b_of b n delta force friction;
      h = held_after law.kt bound trial h;
    }

-- the greatest torque against rolling: a part of the normal force, times the effective radius
unfoldable pub rolling_bound_of : ℕ → ℕ → ℕ → ℕ
rolling_bound_of mr normal_force radius = (mr * normal_force) / 2 ^ 16 * radius

-- a torque of the bound's size against a rolling; none where nothing rolls
unfoldable pub resistance_of : ℕ → Wide3 → Wide3
resistance_of bound roll =
    let size = root_of (norm2_of roll) in
    if size == 0 then no_vector else opposed (quotients (scaled (pos bound) roll) (pos size))

-- the rolling of two sides: the spin of the first against the second, less its part along the normal
unfoldable pub roll_of : Side → Side → Vec3 → Wide3
roll_of a b n = across_normal n (difference_of (widened a.spin) (widened b.spin))

-- the torque on the first against the rolling
unfoldable pub rolling_of : Law → Side → Side → Vec3 → ℕ → Wide3
rolling_of law a b n normal_force = resistance_of (rolling_bound_of law.mr normal_force (radius_between a b)) (roll_of a b n)

-- a push with a torque against rolling, which the second feels the opposite way; a wall feels no torque
unfoldable pub with_rolling : Side → Wide3 → Push → Push
with_rolling b rolling p = record {
  force = p.force;
  torque_a = sum_of p.torque_a rolling;
  torque_b = if b.wall then no_vector else difference_of p.torque_b rolling;
  h = p.h;
}

-- what a contact does, from the overlap as a number without sign
unfoldable pub pushed_of : Law → Side → Side → Vec3 → ℕ → Vec3 → Push
pushed_of law a b n delta h0 =
    let c = contact_radius_of (radius_between a b) delta in
    let mass = mass_between a b in
    let u = relative_velocity_of a b n delta in
    let slip = across_normal n u in
    let h = carried_of n slip h0 in
    let normal_force = normal_force_of law c delta mass (along_normal n u) in
    with_rolling b (rolling_of law a b n normal_force) (push_with law a b n delta normal_force h (trial_of law c mass h slip))

-- what a contact does
unfoldable pub contact_of : Law → Side → Side → Touch → Vec3 → Push
contact_of law a b t h0 = pushed_of law a b t.n (unsigned_abs t.delta) h0
