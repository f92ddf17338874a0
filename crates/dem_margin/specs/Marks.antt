-- Which pairs may still touch after some steps more: where the rest can't, nobody need look at them.
use Rattle.std.specs.Prelude.{ℕ, ℤ, ◌+◌, ◌-◌, ◌*◌, Bool, List, nat_lt, unsigned_abs, if◌then◌else◌}
use Rattle.dem_num.specs.declared.vector.Vec3.{Vec3}
use Rattle.dem_num.specs.declared.vector.Wide3.{Wide3}
use Rattle.dem_num.specs.Vectors.{widened, difference_of}
use Rattle.dem_model.specs.SceneValue.{SceneValue}
use Rattle.dem_model.specs.Centers.{center_at}
use Rattle.dem_model.specs.Near.{drift_of, wall_near_of}
use Rattle.dem_model.specs.Pairs.{sphere_count, sphere_at, wall_at}
use Rattle.dem_model.specs.declared.state.Pair.{Pair}

-- the square of what is left of a distance along one axis once it has shrunk by so much; none is left where it was no greater
unfoldable pub left_of : ℤ → ℕ → ℕ
left_of e moves = (unsigned_abs e - moves) * (unsigned_abs e - moves)

-- two spheres may touch where what is left of their distance is less than their radii together
unfoldable pub spheres_may : Wide3 → ℕ → ℕ → Bool
spheres_may d moves radii = nat_lt (left_of d.x moves + left_of d.y moves + left_of d.z moves) (radii * radii)

-- whether a pair may touch within so many steps after these centers: two spheres by how far both may move, a sphere and a wall where they are near for so many steps
unfoldable pub may_touch : SceneValue → ℕ → List Vec3 → Pair → Bool
may_touch s steps centers p =
    if nat_lt p.b (sphere_count s)
    then spheres_may (difference_of (widened (center_at centers p.a)) (widened (center_at centers p.b))) (drift_of s steps p.a + drift_of s steps p.b) ((sphere_at s p.a).ball.r + (sphere_at s p.b).ball.r)
    else wall_near_of (wall_at s p.b) (center_at centers p.a) (sphere_at s p.a).ball.r (drift_of s steps p.a)
