-- Which pairs of the list in use a step looks at; no contract of a public call names any of it.
use Rattle.std.specs.Prelude.{ℕ, ◌≡◌, ◌≤◌, Bool, true, false, List, length, Some, None, slice_get, slice_index_or, if◌then◌else◌}
use Rattle.dem_num.specs.declared.vector.Vec3.{Vec3}
use Rattle.dem_model.specs.SceneValue.{SceneValue}
use Rattle.dem_model.specs.Centers.{centers_of, touch_of}
use Rattle.dem_model.specs.Plain.{plain_at}
use Rattle.dem_model.specs.declared.state.Pair.{Pair}
use Rattle.dem_model.specs.declared.state.State.{State}
use Rattle.dem_step.specs.declared.marks.Marks.{Marks}

-- whether the pair at a place is looked at: each of them where no marks are made
abbrev pub is_met : Marks → ℕ → Bool
is_met marks i = if marks.made then slice_index_or marks.may.items i true else true

-- a pair that isn't looked at doesn't touch, where the centers are these
abbrev pub AreMarked : SceneValue → List Vec3 → List Pair → Marks → Type 0
AreMarked s centers ps marks = (i : ℕ) (p : Pair) → slice_get ps i ≡ Some p → is_met marks i ≡ false → touch_of s centers p ≡ None

-- there is room for a mark per pair, and a pair that isn't looked at touches in no state of the plain run from this step to the last on which the list is used
pub record StayMarked (s : SceneValue) (step last : ℕ) (ps : List Pair) (marks : Marks) : Type 0 where
  pub room : length ps ≤ length marks.may.items
  pub each : (n : ℕ) (st : State) → step ≤ n → n ≤ last → plain_at s n ≡ Some st → AreMarked s (centers_of s st.bodies) ps marks
