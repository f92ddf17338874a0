-- A list in use, and what is held of its pairs.
use Rattle.std.specs.Prelude.{ℕ, ◌≡◌, ◌≤◌, List, length, All, Some}
use Rattle.dem_num.specs.declared.vector.Vec3.{Vec3}
use Rattle.dem_model.specs.SceneValue.{SceneValue}
use Rattle.dem_model.specs.Carry.{kept_of}
use Rattle.dem_model.specs.Motion.{IsPair}
use Rattle.dem_model.specs.Step.{held_at}
use Rattle.dem_model.specs.declared.state.Held.{Held}
use Rattle.dem_model.specs.declared.state.Pair.{Pair}
use Rattle.dem_model.specs.declared.state.State.{State}
use Rattle.dem_model.specs.Counts.{pair_count, most_pairs}
use Rattle.dem_force.specs.Stored.{IsStored}
use Rattle.dem_list.specs.Ascending.{IsAscending}
use Rattle.dem_hist.specs.Carrying.{HeldByPlace}

-- each of these is a pair of all pairs, and no clump has too many of them
pub record ArePairs (s : SceneValue) (ps : List Pair) : Type 0 where
  pub each : All (IsPair s) ps
  pub few : (c : ℕ) → pair_count s c ps ≤ most_pairs

-- a list in use: its pairs are pairs of the scene and ascend, and there is an entry for each, within its range
pub record AreContacts (s : SceneValue) (contacts : HeldByPlace) : Type 0 where
  pub pairs : ArePairs s contacts.list.pairs
  pub ascends : IsAscending contacts.list.pairs
  pub as_many : length contacts.entries ≡ length contacts.list.pairs
  pub stored : All IsStored contacts.entries

-- what is held of the pairs of a list
abbrev pub held_by : HeldByPlace → List Held
held_by contacts = kept_of contacts.list.pairs contacts.entries

-- what is held of a pair is what a state holds of it: nothing is kept that isn't there
abbrev pub IsHeldIn : State → List Held → Type 0
IsHeldIn st held = (p : Pair) (h : Vec3) → held_at held p ≡ Some h → held_at st.held p ≡ Some h
