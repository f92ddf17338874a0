-- One clump's step: velocity first, then position with the new velocity; spin, then the quaternion; motions that are prescribed; and the limits.
use Rattle.std.specs.Prelude.{ℕ, ℤ, pos, ◌+ℤ◌, ◌-ℤ◌, ◌*ℤ◌, Bool, not, ◌||◌, List, Result, Ok, Err, nat_lt, unsigned_abs, slice_get, if◌then◌else◌}
use Rattle.std.specs.List.{list_any}
use Rattle.std.specs.Option.{option_map_or}
use Rattle.dem_num.specs.declared.vector.Vec3.{Vec3}
use Rattle.dem_num.specs.declared.vector.Wide3.{Wide3}
use Rattle.dem_num.specs.Numbers.{quotient, shifted}
use Rattle.dem_num.specs.Vectors.{widened, narrowed, sum_of, difference_of, quotients, shifted_each, clamped_each}
use Rattle.dem_num.specs.Rotations.{matrix_of, turned_of, turned_back_by, turn_step_of, arm_of, swing_limit_of}
use Rattle.dem_model.specs.SceneValue.{SceneValue}
use Rattle.dem_model.specs.Position.{in_box}
use Rattle.dem_model.specs.Spheres.{balls_of, center_of}
use Rattle.dem_model.specs.Families.{motion_for, velocity_by, spin_by}
use Rattle.dem_model.specs.declared.law.Load.{Load}
use Rattle.dem_model.specs.declared.limits.TheConstants.{MAX_TORQUE}
use Rattle.dem_model.specs.declared.shape.Ball.{Ball}
use Rattle.dem_model.specs.declared.shape.Template.{Template}
use Rattle.dem_model.specs.declared.state.Body.{Body}
use Rattle.dem_model.specs.declared.state.Clump.{Clump}
use Rattle.dem_model.specs.declared.state.EndKind.{EndKind}
use Rattle.dem_model.specs.declared.state.EndKind.TheVariants.{Speed, Spin, Domain, Swing}

-- the mass of a template, by its number
unfoldable pub mass_of : List Template → ℕ → ℕ
mass_of templates t = option_map_or (λ (x : Template). x.mass) (slice_get templates t) 1

-- the moments of inertia of a template, by its number
unfoldable pub moments_of : List Template → ℕ → Vec3
moments_of templates t = option_map_or (λ (x : Template). x.moments) (slice_get templates t) (record { x = pos 1; y = pos 1; z = pos 1 })

-- the new velocity: the old one, gravity, and force over mass
unfoldable pub velocity_after : Vec3 → ℕ → Vec3 → Wide3 → Wide3
velocity_after gravity mass v force = sum_of (sum_of (widened v) (widened gravity)) (quotients force (pos mass))

-- the torque in body axes
unfoldable pub body_torque_of : Body → Wide3 → Wide3
body_torque_of b torque = turned_back_by (matrix_of b.q) (clamped_each torque (pos MAX_TORQUE))

-- a component of the new spin, by Euler's equation about a principal axis
unfoldable pub spin_component : ℤ → ℤ → ℤ → ℤ → ℤ → ℤ → ℤ → ℤ
spin_component w torque own first second u v = w +ℤ quotient (torque +ℤ shifted ((first -ℤ second) *ℤ u *ℤ v) 30) own

-- the new spin in body axes
unfoldable pub spin_after : Vec3 → Vec3 → Wide3 → Wide3
spin_after j w t = record {
  x = spin_component w.x t.x j.x j.y j.z w.y w.z;
  y = spin_component w.y t.y j.y j.z j.x w.z w.x;
  z = spin_component w.z t.z j.z j.x j.y w.x w.y;
}

-- the new position: the old one, moved by the new velocity
unfoldable pub position_after : Vec3 → Wide3 → Wide3
position_after p v = sum_of (widened p) (shifted_each v 16)

-- the body after a step with this new velocity and new spin
unfoldable pub body_with : Body → Wide3 → Wide3 → Body
body_with b v w = record { p = narrowed (position_after b.p v); q = turn_step_of b.q w; v = narrowed v; w = narrowed w }

-- whether some component is greater in size than the limit
unfoldable pub is_over : ℕ → Wide3 → Bool
is_over limit a = nat_lt limit (unsigned_abs a.x) || nat_lt limit (unsigned_abs a.y) || nat_lt limit (unsigned_abs a.z)

-- whether a body or the center of one of its spheres is outside the box
unfoldable pub leaves_box : SceneValue → List Ball → Body → Bool
leaves_box s balls b = not (in_box s (widened b.p)) || list_any (λ (x : Ball). not (in_box s (center_of b x))) balls

-- whether a sphere's turned offset changes by more than its swing limit
unfoldable pub swings : ℕ → List Ball → Body → Body → Bool
swings spin balls old new =
    list_any (λ (x : Ball). is_over (swing_limit_of spin (arm_of (widened x.at))) (difference_of (turned_of new.q (widened x.at)) (turned_of old.q (widened x.at)))) balls

-- the body after a step, or the first limit that it passes: speed, spin, domain, swing
unfoldable pub limited : SceneValue → List Ball → Body → Wide3 → Wide3 → Result Body EndKind
limited s balls b v w =
    if is_over s.speed v then Err Speed
    else (if is_over s.spin w then Err Spin
    else (if leaves_box s balls (body_with b v w) then Err Domain
    else (if swings s.spin balls b (body_with b v w) then Err Swing
    else Ok (body_with b v w))))

-- the step of a clump under a load, or the first limit that it passes; the motion of its family gives the new velocity and the new spin, where it has one
unfoldable pub advance_of : SceneValue → Clump → Body → Load → Result Body EndKind
advance_of s c b load =
    limited s (balls_of s.templates c.t) b
    (velocity_by (motion_for s.motions c.family) (velocity_after s.gravity (mass_of s.templates c.t) b.v load.force))
    (spin_by (motion_for s.motions c.family) (spin_after (moments_of s.templates c.t) b.w (body_torque_of b load.torque)))
