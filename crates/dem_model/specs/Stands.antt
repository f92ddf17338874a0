-- Stands: clumps at rest, not turned. What they are in a scene, and which stands a scene can have.
use Rattle.std.specs.Prelude.{◌≤◌, List, length, map, All}
use Rattle.dem_model.specs.SceneValue.{SceneValue}
use Rattle.dem_model.specs.Centers.{still_body}
use Rattle.dem_model.specs.Spheres.{spheres_of}
use Rattle.dem_model.specs.Sound.{IsFrom, IsClump}
use Rattle.dem_model.specs.declared.state.Body.{Body}
use Rattle.dem_model.specs.declared.state.Clump.{Clump}
use Rattle.dem_model.specs.declared.state.Stand.{Stand}
use Rattle.dem_model.specs.declared.limits.TheConstants.{MAX_CLUMPS, MAX_SPHERES}

-- the body of a stand: at its position, at rest, not turned
abbrev pub standing_body : Stand → Body
standing_body x = record { p = x.p; q = still_body.q; v = still_body.v; w = still_body.w }

-- the clump of a stand, in the first family
abbrev pub standing : Stand → Clump
standing x = record { t = x.t; family = 0; body = standing_body x }

-- a scene with the clumps of these stands in the place of its own
abbrev pub with_stands : SceneValue → List Stand → SceneValue
with_stands s stands = record s { clumps = map standing stands }

-- a scene can have these stands: not too many, each sound as a clump, and not too many spheres
pub record CanStand (s : SceneValue) (stands : List Stand) : Type 0 where
  pub count : IsFrom 1 MAX_CLUMPS (length stands)
  pub clumps : All (λ (x : Stand). IsClump s (standing x)) stands
  pub spheres : length (spheres_of (with_stands s stands)) ≤ MAX_SPHERES
