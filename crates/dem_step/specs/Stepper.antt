-- A run on lists as contracts see it: where it stands, which lists it may use, and what its calls change.
use Rattle.std.specs.Prelude.{ℕ, ◌≡◌, ◌+◌, ◌<◌, ◌≤◌, [], Option, Some, None, Result, Ok, Err, unwrap_or}
use Rattle.std.specs.Option.{IsSomeAnd}
use Rattle.dem_model.specs.SceneValue.{SceneValue}
use Rattle.dem_model.specs.Carry.{carried}
use Rattle.dem_model.specs.Centers.{centers_of}
use Rattle.dem_model.specs.Motion.{AreSound}
use Rattle.dem_model.specs.Near.{near_of}
use Rattle.dem_model.specs.Plain.{first_state, plain_at}
use Rattle.dem_model.specs.Step.{step_of}
use Rattle.dem_model.specs.declared.state.End.{End}
use Rattle.dem_model.specs.declared.state.State.{State}
use Rattle.dem_shape.specs.declared.snapshot.Snapshot.{Snapshot}
use Rattle.dem_list.specs.Ascending.{Pairs}
use Rattle.dem_hist.specs.Carrying.{HeldByPlace}
use Rattle.dem_step.specs.Contacts.{held_by}

-- a run on lists: its scene and drift limit, the plain state where it stands, the step of the list in use, and what is held of its pairs
pub record Stepper : Type 0 where
  pub scene : SceneValue
  pub drift : ℕ
  pub state : State
  pub from : Option ℕ
  pub contacts : HeldByPlace

-- the state of the plain run by number; the first one where the run doesn't get there
unfoldable pub state_at : SceneValue → ℕ → State
state_at s n = unwrap_or (plain_at s n) (first_state s)

-- a snapshot is of the plain run: the run reaches its number, the bodies are those of the state there, and they are sound
pub record IsSnapshotOfRun (s : SceneValue) (snap : Snapshot) : Type 0 where
  pub there : plain_at s snap.step ≡ Some (state_at s snap.step)
  pub bodies : snap.bodies ≡ (state_at s snap.step).bodies
  pub sound : AreSound s snap.bodies

-- a list is of the plain run: the run reaches the list's step, and the pairs are those that are near in the state there
pub record IsListOfRun (s : SceneValue) (drift : ℕ) (list : Pairs) : Type 0 where
  pub there : plain_at s list.from ≡ Some (state_at s list.from)
  pub pairs : list.pairs ≡ near_of s drift (centers_of s (state_at s list.from).bodies)

-- a list from this step may be in use where a run stands: it isn't from later, and not older than the drift limit
pub record IsInTime (run : Stepper) (from : ℕ) : Type 0 where
  pub past : from ≤ run.state.step
  pub young : run.state.step ≤ from + run.drift

-- the list in use: it is from this step, of the plain run, and not from later than where the run stands
pub record IsInUse (run : Stepper) (from : ℕ) : Type 0 where
  pub from_is : run.contacts.list.from ≡ from
  pub near : IsListOfRun run.scene run.drift run.contacts.list
  pub past : from ≤ run.state.step

-- a run may make a step: a list is in use that isn't older than the drift limit, and not all steps are made
pub record CanStep (run : Stepper) : Type 0 where
  pub listed : IsSomeAnd run.from (λ from. run.state.step ≤ from + run.drift)
  pub goes_on : run.state.step < run.scene.steps

-- a run begins: it stands at the first state, no list is in use, and nothing is held
pub record Begins (s : SceneValue) (drift : ℕ) (run : Stepper) : Type 0 where
  pub scene : run.scene ≡ s
  pub drift_is : run.drift ≡ drift
  pub state : run.state ≡ first_state s
  pub from : run.from ≡ None
  pub list_from : run.contacts.list.from ≡ 0
  pub pairs : run.contacts.list.pairs ≡ []
  pub entries : run.contacts.entries ≡ []

-- a run takes a list into use: each of its pairs keeps what was held of it, and all else stays
pub record TakesList (old : Stepper) (list : Pairs) (new : Stepper) : Type 0 where
  pub from : new.from ≡ Some list.from
  pub list_is : new.contacts.list ≡ list
  pub entries : new.contacts.entries ≡ carried old.contacts.list.pairs old.contacts.entries list.pairs
  pub state : new.state ≡ old.state
  pub scene : new.scene ≡ old.scene
  pub drift : new.drift ≡ old.drift

-- a run makes the plain step on its list: what is held of the pairs of the list is what the next state holds, and all else stays
pub record MakesStep (old new : Stepper) : Type 0 where
  pub step : step_of old.scene old.state ≡ Ok new.state
  pub held : held_by new.contacts ≡ new.state.held
  pub list : new.contacts.list ≡ old.contacts.list
  pub from : new.from ≡ old.from
  pub scene : new.scene ≡ old.scene
  pub drift : new.drift ≡ old.drift

-- a step on a list: it is made, or it ends as the plain step does and nothing has changed
abbrev pub StepsOnList : {A : Type 0} → Stepper → Stepper → Result A End → Type 0
StepsOnList old new (Ok _) = MakesStep old new
StepsOnList old new (Err e) = (step_of old.scene old.state ≡ Err e) × (new ≡ old)
