-- Which clumps the pairs of a part push; no contract of a public call names any of it.
use Rattle.std.specs.Prelude.{ℕ, ◌≡◌, ◌==◌, ◌<◌, ◌⊎◌, false, List, slice_index_or}
use Rattle.dem_model.specs.SceneValue.{SceneValue}
use Rattle.dem_model.specs.Step.{first_clump, is_second, no_load}
use Rattle.dem_model.specs.declared.law.Load.{Load}
use Rattle.dem_model.specs.declared.state.Pair.{Pair}
use Rattle.dem_step.specs.declared.felt.Felt.{Felt}

-- a clump comes before the first that is pushed, or after the last
abbrev pub IsOutside : Felt → ℕ → Type 0
IsOutside felt c = (c < felt.first) ⊎ (felt.last < c)

-- a pair doesn't push a clump: neither of its two is that one
abbrev pub IsUnpushed : SceneValue → Pair → ℕ → Type 0
IsUnpushed s p c = ((first_clump s p == c) ≡ false) × (is_second s c p ≡ false)

-- the sums of all clumps outside are nothing
abbrev pub AreFelt : Felt → List Load → Type 0
AreFelt felt loads = (c : ℕ) → IsOutside felt c → slice_index_or loads c no_load ≡ no_load
