-- Bodies that are sound for their clumps, and how far a sphere may move in one step.
use Rattle.std.specs.Prelude.{ℕ, IsTrue, ◌+◌, ◌-◌, ◌/◌, ◌<◌, ◌≡◌, true, List, length}
use Rattle.dem_num.specs.declared.vector.Vec3.{Vec3}
use Rattle.dem_num.specs.Vectors.{widened}
use Rattle.dem_num.specs.Rotations.{arm_of, swing_limit_of}
use Rattle.dem_model.specs.SceneValue.{SceneValue}
use Rattle.dem_model.specs.Position.{in_box}
use Rattle.dem_model.specs.Spheres.{Sphere, center_of}
use Rattle.dem_model.specs.Sound.{IsBall, IsBodyOf}
use Rattle.dem_model.specs.Pairs.{sphere_count, limit_of, apart}
use Rattle.dem_model.specs.Centers.{body_at, center_at}
use Rattle.dem_model.specs.Step.{clump_at}
use Rattle.dem_model.specs.declared.limits.TheConstants.{VELOCITY_UNIT}
use Rattle.dem_model.specs.declared.shape.Ball.{Ball}
use Rattle.dem_model.specs.declared.state.Body.{Body}
use Rattle.dem_model.specs.declared.state.Pair.{Pair}

-- there is a body for each clump, and it is sound for its clump
pub record AreSound (s : SceneValue) (bodies : List Body) : Type 0 where
  pub count : length bodies ≡ length s.clumps
  pub each : (k : ℕ) → k < length s.clumps → IsBodyOf s (clump_at s k) (body_at bodies k)

-- how far a sphere may move in one step, per axis: with its clump at the speed limit, and by the swing of its arm
unfoldable pub per_step_of : SceneValue → Ball → ℕ
per_step_of s b = (s.speed + (VELOCITY_UNIT - 1)) / VELOCITY_UNIT + swing_limit_of s.spin (arm_of (widened b.at))

-- a sphere's clump is there, its ball is within its ranges, and its center is in the box where its clump's body is sound
pub record IsSphere (s : SceneValue) (x : Sphere) : Type 0 where
  pub clump : x.clump < length s.clumps
  pub ball : IsBall (length s.materials) x.ball
  pub center : (b : Body) → IsBodyOf s (clump_at s x.clump) b → IsTrue (in_box s (center_of b x.ball))

-- a pair of all pairs: its first is a sphere, its second a later sphere of another clump or a wall
pub record IsPair (s : SceneValue) (p : Pair) : Type 0 where
  pub first : p.a < sphere_count s
  pub second : p.b < limit_of s
  pub is_apart : apart s p ≡ true

-- there is a center for each sphere, and it is in the box
pub record AreInside (s : SceneValue) (centers : List Vec3) : Type 0 where
  pub count : length centers ≡ sphere_count s
  pub each : (i : ℕ) → i < sphere_count s → IsTrue (in_box s (widened (center_at centers i)))
