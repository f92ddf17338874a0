-- What touch and the contact law are made for: the ranges of walls, of laws, of sides, of a touch, of a push.
use Rattle.std.specs.Prelude.{ℕ, pos, ◌^◌, ◌<◌, ◌≤◌, ◌≡◌, ◌⊎◌, true, false}
use Rattle.dem_num.specs.Vectors.{widened, narrowed, no_vector, Within, is_zero}
use Rattle.dem_model.specs.Sound.{IsFrom, IsBetween, EachBetween}
use Rattle.dem_model.specs.declared.law.Law.{Law}
use Rattle.dem_model.specs.declared.law.Push.{Push}
use Rattle.dem_model.specs.declared.law.Side.{Side}
use Rattle.dem_model.specs.declared.law.Touch.{Touch}
use Rattle.dem_model.specs.declared.shape.Form.{Form}
use Rattle.dem_model.specs.declared.shape.Form.TheVariants.{Plane, Cylinder}
use Rattle.dem_model.specs.declared.limits.TheConstants.{MAX_STIFFNESS, MAX_RATIO, MAX_OVERLAP, MAX_POINT, MAX_DIRECTION, MAX_CYLINDER, MAX_SPEED, MAX_MASS, MAX_RADIUS, MAX_DISPLACEMENT}

-- the numbers of a law are within the ranges of a material
pub record IsLaw (law : Law) : Type 0 where
  pub kn : IsFrom 1 MAX_STIFFNESS law.kn
  pub kt : law.kt ≤ MAX_STIFFNESS
  pub bn : law.bn ≤ MAX_RATIO
  pub bt : law.bt ≤ MAX_RATIO
  pub mu : law.mu ≤ MAX_RATIO
  pub mr : law.mr ≤ MAX_RATIO

-- a side is within its ranges, a wall's zeros among them
pub record IsBounded (s : Side) : Type 0 where
  pub v : Within (widened s.v) MAX_SPEED
  pub spin : Within (widened s.spin) (2 ^ 30)
  pub lever : Within (widened s.lever) (2 ^ 28)
  pub r : s.r ≤ MAX_RADIUS
  pub mass : s.mass ≤ MAX_MASS

-- a side that isn't a wall is within its ranges
pub record IsFirst (s : Side) : Type 0 where
  pub within : IsBounded s
  pub has_radius : 1 ≤ s.r
  pub has_mass : 1 ≤ s.mass
  pub no_wall : s.wall ≡ false

-- a wall's side: at rest, without radius, mass or lever
abbrev pub wall_side_of : Side
wall_side_of = record {
  v = narrowed no_vector;
  spin = narrowed no_vector;
  lever = narrowed no_vector;
  r = 0;
  mass = 0;
  wall = true;
}

-- the second side of a contact is a wall's, or that of a sphere
abbrev pub IsSecond : Side → Type 0
IsSecond s = (s ≡ wall_side_of) ⊎ IsFirst s

-- a touch is within its ranges: no component of the normal above 2^30, the overlap from 1 to 2^27
pub record IsTouch (t : Touch) : Type 0 where
  pub n : Within (widened t.n) (2 ^ 30)
  pub delta : IsBetween (pos 1) (pos MAX_OVERLAP) t.delta

-- a push is within the sizes that its sums are bounded by
pub record IsSmall (p : Push) : Type 0 where
  pub force : Within p.force (2 ^ 63)
  pub torque_a : Within p.torque_a (2 ^ 93)
  pub torque_b : Within p.torque_b (2 ^ 93)
  pub h : Within (widened p.h) MAX_DISPLACEMENT

-- a wall that a sphere of this radius may meet: a plane has a direction, a cylinder is wider than the sphere
abbrev pub IsWallFor : ℕ → Form → Type 0
IsWallFor r (Plane at dir) = EachBetween (pos 0) (pos MAX_POINT) at × Within (widened dir) MAX_DIRECTION × (is_zero (widened dir) ≡ false)
IsWallFor r (Cylinder axis at radius) = EachBetween (pos 0) (pos MAX_POINT) at × (r < radius) × (radius ≤ MAX_CYLINDER)
