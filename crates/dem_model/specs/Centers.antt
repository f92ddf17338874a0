-- Where the spheres are, and which pairs touch there.
use Rattle.std.specs.Prelude.{ℕ, pos, ◌+◌, List, map, Option, nat_lt, slice_index_or, if◌then◌else◌}
use Rattle.dem_num.specs.declared.vector.Vec3.{Vec3}
use Rattle.dem_num.specs.Vectors.{widened, narrowed, difference_of, no_vector}
use Rattle.dem_model.specs.SceneValue.{SceneValue}
use Rattle.dem_model.specs.Spheres.{Sphere, spheres_of, center_of}
use Rattle.dem_model.specs.Pairs.{sphere_count, sphere_at, wall_at}
use Rattle.dem_model.specs.Touch.{spheres_touch, wall_touch_of}
use Rattle.dem_model.specs.declared.law.Touch.{Touch}
use Rattle.dem_model.specs.declared.limits.TheConstants.{UNIT}
use Rattle.dem_model.specs.declared.state.Body.{Body}
use Rattle.dem_model.specs.declared.state.Pair.{Pair}

-- a body at rest at the origin, which stands where a number names none
abbrev pub still_body : Body
still_body = record { p = narrowed no_vector; q = record { a = pos UNIT; b = pos 0; c = pos 0; d = pos 0 }; v = narrowed no_vector; w = narrowed no_vector }

-- a body by the number of its clump
unfoldable pub body_at : List Body → ℕ → Body
body_at bodies k = slice_index_or bodies k still_body

-- the center of a sphere, where the bodies stand so
unfoldable pub placed : List Body → Sphere → Vec3
placed bodies x = narrowed (center_of (body_at bodies x.clump) x.ball)

-- the centers of all spheres, in the order of their numbers
unfoldable pub centers_of : SceneValue → List Body → List Vec3
centers_of s bodies = map (placed bodies) (spheres_of s)

-- a center by the number of its sphere
unfoldable pub center_at : List Vec3 → ℕ → Vec3
center_at centers i = slice_index_or centers i (narrowed no_vector)

-- how a pair touches, where the centers are these
unfoldable pub touch_of : SceneValue → List Vec3 → Pair → Option Touch
touch_of s centers p =
    if nat_lt p.b (sphere_count s)
    then spheres_touch (difference_of (widened (center_at centers p.a)) (widened (center_at centers p.b))) ((sphere_at s p.a).ball.r + (sphere_at s p.b).ball.r)
    else wall_touch_of (wall_at s p.b) (center_at centers p.a) (sphere_at s p.a).ball.r
