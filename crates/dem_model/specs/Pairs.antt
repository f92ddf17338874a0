-- The pairs that may touch: a sphere, and a wall or a later sphere of another clump whose family isn't off with its own.
use Rattle.std.specs.Prelude.{ℕ, pos, ◌+◌, ◌-◌, ◌==◌, Bool, true, not, ◌&&◌, List, length, map, filter, nat_lt, slice_index_or, if◌then◌else◌}
use Rattle.std.specs.List.{flat_map, range_with_len}
use Rattle.std.specs.Ordering.{nat_cmp, ordering_then}
use Rattle.std.specs.declared.cmp.Ordering.{Ordering}
use Rattle.dem_model.specs.SceneValue.{SceneValue}
use Rattle.dem_model.specs.Spheres.{Sphere, spheres_of}
use Rattle.dem_model.specs.Families.{family_of, is_off}
use Rattle.dem_model.specs.declared.shape.Form.TheVariants.{Plane}
use Rattle.dem_model.specs.declared.shape.Wall.{Wall}
use Rattle.dem_model.specs.declared.state.Pair.{Pair}

-- how many spheres a scene has
unfoldable pub sphere_count : SceneValue → ℕ
sphere_count s = length (spheres_of s)

-- how many spheres and walls a scene has; walls are numbered after the spheres
unfoldable pub limit_of : SceneValue → ℕ
limit_of s = sphere_count s + length s.walls

-- the sphere that stands where a number names none
abbrev pub no_sphere : Sphere
no_sphere = record { clump = 0; ball = record { at = record { x = pos 0; y = pos 0; z = pos 0 }; r = 1; mat = 0 } }

-- a sphere by its number
unfoldable pub sphere_at : SceneValue → ℕ → Sphere
sphere_at s i = slice_index_or (spheres_of s) i no_sphere

-- the wall that stands where a number names none
abbrev pub no_wall : Wall
no_wall = record { form = Plane (record { x = pos 0; y = pos 0; z = pos 0 }) (record { x = pos 0; y = pos 0; z = pos 1 }); mat = 0 }

-- a wall by its number among spheres and walls
unfoldable pub wall_at : SceneValue → ℕ → Wall
wall_at s i = slice_index_or s.walls (i - sphere_count s) no_wall

-- the pair of two numbers
abbrev pub pair_of : ℕ → ℕ → Pair
pair_of a b = record { a = a; b = b }

-- the order of pairs: by the first number, then by the second
abbrev pub pair_cmp : Pair → Pair → Ordering
pair_cmp p q = ordering_then (nat_cmp p.a q.a) (nat_cmp p.b q.b)

-- whether the spheres of two clumps may touch: the clumps differ, and their families aren't off with each other
unfoldable pub clumps_meet : SceneValue → ℕ → ℕ → Bool
clumps_meet s c d = not (c == d) && not (is_off s.off (family_of s c) (family_of s d))

-- whether the second is later, and a wall or a sphere of a clump that the first's may meet
unfoldable pub apart : SceneValue → Pair → Bool
apart s p = nat_lt p.a p.b && (if nat_lt p.b (sphere_count s) then clumps_meet s (sphere_at s p.a).clump (sphere_at s p.b).clump else true)

-- the pairs of one sphere with what is numbered below b
unfoldable pub row_below : SceneValue → ℕ → ℕ → List Pair
row_below s a b = filter (apart s) (map (pair_of a) (range_with_len 0 b))

-- the pairs of the spheres numbered below a
unfoldable pub pairs_below : SceneValue → ℕ → List Pair
pairs_below s a = flat_map (λ i. row_below s i (limit_of s)) (range_with_len 0 a)

-- all pairs that may touch, in ascending order
unfoldable pub all_pairs : SceneValue → List Pair
all_pairs s = pairs_below s (sphere_count s)
