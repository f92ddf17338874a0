-- Room for where all clumps and spheres are, and a push as the meeting of its pair.
use Rattle.std.specs.Prelude.{◌≡◌, length}
use Rattle.dem_model.specs.SceneValue.{SceneValue}
use Rattle.dem_model.specs.Pairs.{sphere_count}
use Rattle.dem_model.specs.Step.{Meeting}
use Rattle.dem_model.specs.declared.law.Push.{Push}
use Rattle.dem_model.specs.declared.state.Pair.{Pair}
use Rattle.dem_force.specs.declared.pushing.spheres.Spheres.{Spheres}

-- there is a matrix for each clump, and a center and a side for each sphere
pub record HasPlaces (s : SceneValue) (spheres : Spheres) : Type 0 where
  pub matrices : length spheres.matrices ≡ length s.clumps
  pub centers : length spheres.centers ≡ sphere_count s
  pub sides : length spheres.sides ≡ sphere_count s

-- the meeting of a pair that does this
abbrev pub meeting_with : Pair → Push → Meeting
meeting_with pair push = record { pair = pair; push = push }
