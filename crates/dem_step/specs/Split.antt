-- A step whose list is shared among threads: the pairs of a part, what all parts are made from, and loads that are added.
use Rattle.std.specs.Prelude.{ℕ, ◌-◌, ◌≡◌, ◌<◌, ◌≤◌, All, List, length, take, drop, Result, Ok, Err, slice_index_or}
use Rattle.dem_model.specs.SceneValue.{SceneValue}
use Rattle.dem_model.specs.Motion.{AreInside}
use Rattle.dem_model.specs.Step.{no_load, load_plus, step_of}
use Rattle.dem_model.specs.declared.law.Load.{Load}
use Rattle.dem_model.specs.declared.state.Body.{Body}
use Rattle.dem_model.specs.declared.state.Pair.{Pair}
use Rattle.dem_force.specs.Loads.{CanGrow}
use Rattle.dem_force.specs.Sides.{AreSides}
use Rattle.dem_force.specs.Stored.{IsStored}
use Rattle.dem_force.specs.declared.pushing.spheres.Spheres.{Spheres}
use Rattle.dem_list.specs.Ascending.{IsAscending}
use Rattle.dem_hist.specs.Carrying.{HeldByPlace}
use Rattle.dem_step.specs.Contacts.{ArePairs}
use Rattle.dem_step.specs.Marks.{AreMarked}
use Rattle.dem_step.specs.Stepper.{Stepper, MakesStep}
use Rattle.dem_step.specs.declared.marks.Marks.{Marks}
use Rattle.dem_step.specs.declared.split.SplitStop.{SplitStop}
use Rattle.dem_step.specs.declared.split.SplitStop.TheVariants.{Ended, OutOfMemory}

-- a split step on a list: as a step on a list; or memory was refused, and nothing has changed
abbrev pub SplitsOnList : {A : Type 0} → Stepper → Stepper → Result A SplitStop → Type 0
SplitsOnList old new (Ok _) = MakesStep old new
SplitsOnList old new (Err (Ended e)) = (step_of old.scene old.state ≡ Err e) × (new ≡ old)
SplitsOnList old new (Err OutOfMemory) = new ≡ old

-- the pairs of a list from one place to before another
abbrev pub pairs_between : ℕ → ℕ → List Pair → List Pair
pairs_between from to ps = take (to - from) (drop from ps)

-- what a clump feels of two loads
abbrev pub both_loads : Load → Load → Load
both_loads w v = load_plus w v.force v.torque

-- loads may be added place by place: there is one for each, and none is near a bound
pub record CanBeAdded (loads others : List Load) : Type 0 where
  pub size : length others ≡ length loads
  pub first : (c : ℕ) → c < length loads → CanGrow (slice_index_or loads c no_load)
  pub second : (c : ℕ) → c < length loads → CanGrow (slice_index_or others c no_load)

-- up to a place each load is that of before and the other one at its place, and from there on as before
pub record AreAdded (old others now : List Load) (i : ℕ) : Type 0 where
  pub size : length now ≡ length old
  pub done : (c : ℕ) → c < i → c < length old → slice_index_or now c no_load ≡ both_loads (slice_index_or old c no_load) (slice_index_or others c no_load)
  pub rest : (c : ℕ) → i ≤ c → slice_index_or now c no_load ≡ slice_index_or old c no_load

-- all that the parts of a step are made from: where the spheres are and how they move, the pairs, what is held of them, and which of them are looked at
pub record IsReady (s : SceneValue) (bodies : List Body) (spheres : Spheres) (contacts : HeldByPlace) (marks : Marks) : Type 0 where
  pub centers : AreInside s spheres.centers
  pub sides : AreSides s bodies spheres.sides
  pub pairs : ArePairs s contacts.list.pairs
  pub ascends : IsAscending contacts.list.pairs
  pub within : All IsStored contacts.entries
  pub room : length contacts.list.pairs ≤ length marks.may.items
  pub marked : AreMarked s spheres.centers contacts.list.pairs marks
