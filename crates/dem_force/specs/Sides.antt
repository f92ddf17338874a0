-- The sides of all spheres, made from the bodies of a state.
use Rattle.std.specs.Prelude.{ℕ, ◌≡◌, ◌<◌, List, length, slice_index_or}
use Rattle.dem_model.specs.SceneValue.{SceneValue}
use Rattle.dem_model.specs.Pairs.{sphere_count}
use Rattle.dem_model.specs.Ranges.{IsFirst, wall_side_of}
use Rattle.dem_model.specs.Step.{side_at}
use Rattle.dem_model.specs.declared.law.Side.{Side}
use Rattle.dem_model.specs.declared.state.Body.{Body}

-- there is a side for each sphere, it is that of the bodies, and it is within its ranges
pub record AreSides (s : SceneValue) (bodies : List Body) (sides : List Side) : Type 0 where
  pub count : length sides ≡ sphere_count s
  pub each : (i : ℕ) → i < sphere_count s → slice_index_or sides i wall_side_of ≡ side_at s bodies i
  pub ranges : (i : ℕ) → i < sphere_count s → IsFirst (slice_index_or sides i wall_side_of)
