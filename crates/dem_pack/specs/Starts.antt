-- Where a run begins.
use Rattle.std.specs.Prelude.{◌≡◌, ◌<◌, None}
use Rattle.dem_model.specs.SceneValue.{SceneValue}
use Rattle.dem_model.specs.Centers.{centers_of, touch_of}
use Rattle.dem_model.specs.Pairs.{sphere_at, sphere_count}
use Rattle.dem_model.specs.Plain.{first_state}
use Rattle.dem_model.specs.declared.state.Pair.{Pair}

-- no two spheres of different clumps touch where a run of the scene begins, whether their families are off with each other or not
abbrev pub BeginsApart : SceneValue → Type 0
BeginsApart s =
    (p : Pair) → p.a < p.b → p.b < sphere_count s → ((sphere_at s p.a).clump ≡ (sphere_at s p.b).clump → ⊥) → touch_of s (centers_of s (first_state s).bodies) p ≡ None
