-- Loads that have room for one more contact.
use Rattle.std.specs.Prelude.{ℕ, ◌≡◌, ◌<◌, ◌^◌, List, length, slice_index_or}
use Rattle.dem_num.specs.Vectors.{Within}
use Rattle.dem_model.specs.SceneValue.{SceneValue}
use Rattle.dem_model.specs.Step.{no_load}
use Rattle.dem_model.specs.declared.law.Load.{Load}

-- a load is within the bounds under which a clump advances
pub record CanGrow (w : Load) : Type 0 where
  pub force : Within w.force (2 ^ 84)
  pub torque : Within w.torque (2 ^ 114)

-- there is a load for each clump, within these bounds
pub record AreLoads (s : SceneValue) (ws : List Load) : Type 0 where
  pub count : length ws ≡ length s.clumps
  pub each : (c : ℕ) → c < length s.clumps → CanGrow (slice_index_or ws c no_load)
