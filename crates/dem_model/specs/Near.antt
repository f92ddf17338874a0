-- Which pairs are near: those that may touch before their list is too old.
use Rattle.std.specs.Prelude.{ℕ, pos, ◌+◌, ◌-◌, ◌*◌, ◌≡◌, ◌<◌, Bool, true, not, ◌&&◌, List, filter, All, is_some, nat_lt, int_lt, unsigned_abs, if◌then◌else◌}
use Rattle.dem_num.specs.declared.vector.Vec3.{Vec3}
use Rattle.dem_num.specs.declared.vector.Wide3.{Wide3}
use Rattle.dem_num.specs.Vectors.{widened, difference_of, Within}
use Rattle.dem_model.specs.SceneValue.{SceneValue}
use Rattle.dem_model.specs.Pairs.{sphere_count, sphere_at, wall_at, all_pairs}
use Rattle.dem_model.specs.Touch.{gap_of, first_across, second_across}
use Rattle.dem_model.specs.Centers.{center_at, touch_of}
use Rattle.dem_model.specs.Motion.{per_step_of}
use Rattle.dem_model.specs.declared.shape.Axis.{Axis}
use Rattle.dem_model.specs.declared.shape.Form.{Form}
use Rattle.dem_model.specs.declared.shape.Form.TheVariants.{Plane, Cylinder}
use Rattle.dem_model.specs.declared.shape.Wall.{Wall}
use Rattle.dem_model.specs.declared.state.Pair.{Pair}

-- how far a sphere may move in so many steps, per axis
unfoldable pub drift_of : SceneValue → ℕ → ℕ → ℕ
drift_of s drift i = drift * per_step_of s (sphere_at s i).ball

-- how far a sphere may reach in so many steps, per axis: its radius, and how far it may move
unfoldable pub reach_of : SceneValue → ℕ → ℕ → ℕ
reach_of s drift i = (sphere_at s i).ball.r + drift_of s drift i

-- two spheres are near where on each axis their centers are no farther apart than both may reach
unfoldable pub spheres_near : Wide3 → ℕ → Bool
spheres_near d reach = not (nat_lt reach (unsigned_abs d.x)) && not (nat_lt reach (unsigned_abs d.y)) && not (nat_lt reach (unsigned_abs d.z))

-- a sphere is near a plane where its gap is less than its radius and three times how far it may move per axis
unfoldable pub plane_near : Vec3 → Vec3 → Vec3 → ℕ → ℕ → Bool
plane_near at dir c r extra = int_lt (gap_of at dir c) (pos (r + 3 * extra))

-- a sphere inside a cylinder is near it where its center, moved outward on both axes, is farther from the axis than the radii allow
unfoldable pub cylinder_near : Axis → Vec3 → ℕ → Vec3 → ℕ → ℕ → Bool
cylinder_near axis at radius c r extra =
    let d = difference_of (widened c) (widened at) in
    let e = unsigned_abs (first_across axis d) + extra in
    let f = unsigned_abs (second_across axis d) + extra in
    nat_lt ((radius - r) * (radius - r)) (e * e + f * f)

-- whether a sphere is near a wall of this form
abbrev pub form_near : Form → Vec3 → ℕ → ℕ → Bool
form_near (Plane at dir) c r extra = plane_near at dir c r extra
form_near (Cylinder axis at radius) c r extra = cylinder_near axis at radius c r extra

-- whether a sphere is near a wall, if it moves no farther than that per axis
unfoldable pub wall_near_of : Wall → Vec3 → ℕ → ℕ → Bool
wall_near_of w c r extra = form_near w.form c r extra

-- whether a pair is near, where the centers are these and lists are used for so many steps
unfoldable pub near : SceneValue → ℕ → List Vec3 → Pair → Bool
near s drift centers p =
    if nat_lt p.b (sphere_count s)
    then spheres_near (difference_of (widened (center_at centers p.a)) (widened (center_at centers p.b))) (reach_of s drift p.a + reach_of s drift p.b)
    else wall_near_of (wall_at s p.b) (center_at centers p.a) (sphere_at s p.a).ball.r (drift_of s drift p.a)

-- the near pairs among all, in ascending order
unfoldable pub near_of : SceneValue → ℕ → List Vec3 → List Pair
near_of s drift centers = filter (near s drift centers) (all_pairs s)

-- each sphere's center has moved no farther than it may in so many steps
pub record HasDrifted (s : SceneValue) (drift : ℕ) (from now : List Vec3) : Type 0 where
  pub each : (i : ℕ) → i < sphere_count s → Within (difference_of (widened (center_at now i)) (widened (center_at from i))) (drift_of s drift i)

-- every pair that touches at the later centers is near at the earlier ones
abbrev pub Covers : SceneValue → ℕ → List Vec3 → List Vec3 → Type 0
Covers s drift from now = All (λ p. is_some (touch_of s now p) ≡ true → near s drift from p ≡ true) (all_pairs s)
