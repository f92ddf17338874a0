-- What a looker keeps of the state that it was shown last.
use Rattle.std.specs.Prelude.{ℕ, ◌≡◌, Bool, List, length, map, Option, option_map}
use Rattle.dem_model.specs.SceneValue.{SceneValue}
use Rattle.dem_model.specs.Look.{clump_numbers, is_low}
use Rattle.dem_model.specs.declared.state.State.{State}

-- a looker: how many clumps it looks at, and which of them were low in the state that it was shown last, where there was one
pub record LookerValue : Type 0 where
  pub clumps : ℕ
  pub lows : Option (List Bool)

-- of each clump, whether it is low in a state
unfoldable pub lows_of : SceneValue → State → List Bool
lows_of s st = map (is_low s st) (clump_numbers s)

-- a looker was shown this state last, or none yet
abbrev pub Shows : SceneValue → LookerValue → Option State → Type 0
Shows s looker before = looker.lows ≡ option_map (lows_of s) before

-- there is a flag of the last state, a flag of the next one and a count for each clump
pub record HasRoom (flags next_flags : List Bool) (counts : List ℕ) : Type 0 where
  pub low : length flags ≡ length counts
  pub next : length next_flags ≡ length counts
