-- A run on lists as contracts see it: what holds of each, and what its calls change and write.
use Rattle.std.specs.Prelude.{ℕ, ◌≡◌, ◌+◌, ◌*◌, ◌^◌, ◌<◌, ◌≤◌, true, List, [], Option, Some, None, Result, Ok, Err}
use Rattle.std.specs.Io.KnownBytes.{Appends, Keeps}
use Rattle.std.specs.Option.{IsSomeAnd}
use Rattle.dem_outside.specs.Faults.{Rose}
use Rattle.dem_outside.specs.Known.{AppendsPrefix}
use Rattle.dem_model.specs.SceneValue.{SceneValue}
use Rattle.dem_model.specs.Carry.{kept_of, Agrees}
use Rattle.dem_model.specs.Centers.{centers_of}
use Rattle.dem_model.specs.Near.{near_of}
use Rattle.dem_model.specs.Plain.{first_state, plain_at, last_of}
use Rattle.dem_model.specs.Step.{step_of}
use Rattle.dem_model.specs.Frames.{taken_text}
use Rattle.dem_model.specs.declared.state.Last.{Last}
use Rattle.dem_model.specs.declared.state.Last.TheVariants.{Done, Passed}
use Rattle.dem_list.specs.Ascending.{Pairs}
use Rattle.dem_step.specs.Contacts.{IsHeldIn}
use Rattle.dem_step.specs.Stepper.{Stepper}
use Rattle.dem_model.specs.World.{Course, is_open, is_past, done_at, first_course, with_list, row_with, reached_text}
use Rattle.dem_output.specs.declared.running.RunFault.{RunFault}
use Rattle.dem_output.specs.declared.running.RunFault.TheVariants as faults
use Rattle.dem_core.specs.declared.did.WorldStop.{WorldStop}
use Rattle.dem_core.specs.declared.did.WorldStop.TheVariants.{WriteFault, OutOfMemory}

-- a run on lists: its scene, its drift limit, and how far it has come
pub record Running : Type 0 where
  pub scene : SceneValue
  pub drift : ℕ
  pub course : Course

-- how far a run has come, from what is stored of it
abbrev pub course_of : Stepper → ℕ → ℕ → Option Last → Course
course_of run taken_at tests last = record {
  state = run.state;
  from = run.from;
  pairs = run.contacts.list.pairs;
  entries = run.contacts.entries;
  taken_at = taken_at;
  tests = tests;
  last = last;
}

-- the tests of an open run fit 64 bits, with room for those of the next step
abbrev pub IsCounted : Course → Type 0
IsCounted c = c.last ≡ None → c.tests ≤ 2 ^ 32 * c.state.step

-- ---- what holds of each

-- the list in use has the near pairs of a state of the plain run, and is at most one step older than the drift limit; it was taken between that state and now.
-- Without a list no step was begun
abbrev pub HasList : SceneValue → ℕ → Course → Option ℕ → Type 0
HasList s drift c None = (c.state.step ≡ 0) × (c.pairs ≡ []) × (c.entries ≡ []) × (c.taken_at ≡ 0) × (c.tests ≡ 0) × (c.last ≡ done_at s 0)
HasList s drift c (Some from) =
    IsSomeAnd (plain_at s from) (λ st. c.pairs ≡ near_of s drift (centers_of s st.bodies)) × (from ≤ c.taken_at) × (c.taken_at ≤ c.state.step) × (c.state.step ≤ from + drift + 1) × (0 < s.steps)

-- a run that is open has steps left; one that has ended has ended as the plain run does
abbrev pub HasEnd : SceneValue → Course → Option Last → Type 0
HasEnd s c None = c.state.step < s.steps
HasEnd s c (Some (Done n)) = (Done n ≡ last_of s) × (n ≡ c.state.step) × (n ≡ s.steps)
HasEnd s c (Some (Passed end)) = (Passed end ≡ last_of s) × (step_of s c.state ≡ Err end) × (c.state.step < s.steps) × (end.step ≡ c.state.step + 1)

-- what holds of each run on lists: it stands at a state of the plain run, with a list of that run, and ends as that run does
pub record IsOnCourse (s : SceneValue) (drift : ℕ) (c : Course) : Type 0 where
  pub plain : plain_at s c.state.step ≡ Some c.state
  pub list : HasList s drift c c.from
  pub end : HasEnd s c c.last

-- what is held of the pairs in use: of each pair that touches what the state holds of it, and of no pair anything else
pub record HoldsRight (s : SceneValue) (c : Course) : Type 0 where
  pub agrees : Agrees s c.state (kept_of c.pairs c.entries)
  pub only : IsHeldIn c.state (kept_of c.pairs c.entries)

-- ---- what its calls change

-- a run may take a list from this step into use: it is open, and the step is later than that of the list in use, not before the one at which that was taken, and not after now
pub record MayCollect (c : Course) (from : ℕ) : Type 0 where
  pub goes_on : is_open c ≡ true
  pub newer : is_past c.from from ≡ true
  pub since : c.taken_at ≤ from
  pub past : from ≤ c.state.step

-- a run begins: its first frame was written, and the end row where it has no steps; or a prefix of that, and why
abbrev pub BeginsCourse : SceneValue → ℕ → (held now : Option (List ℕ)) → (faults faults_now : ℕ) → Result Running WorldStop → Type 0
BeginsCourse s drift held now faults faults_now (Ok run) =
    (run ≡ record { scene = s; drift = drift; course = first_course s }) × Appends held now (reached_text s (first_state s)) × (faults_now ≡ faults)
BeginsCourse s drift held now faults faults_now (Err WriteFault) = AppendsPrefix held now (reached_text s (first_state s)) × Rose faults faults_now
BeginsCourse s drift held now faults faults_now (Err OutOfMemory) = Keeps held now × (faults_now ≡ faults)

-- a list isn't taken into use with its row: the put failed, and the list is in use; or no memory was there, nothing has changed and the very list comes back
abbrev pub Refuses : Running → Running → Pairs → (held now : Option (List ℕ)) → (faults faults_now : ℕ) → Pairs → WorldStop → Type 0
Refuses old new list held now faults faults_now back WriteFault =
    (new ≡ record { scene = old.scene; drift = old.drift; course = with_list old.course list.from list.pairs })
    × AppendsPrefix held now (taken_text (row_with old.course list.from list.pairs))
    × Rose faults faults_now
Refuses old new list held now faults faults_now back OutOfMemory = (new ≡ old) × (back ≡ list) × Keeps held now × (faults_now ≡ faults)

-- a run takes a list into use, and its row is written; or it doesn't
abbrev pub Collects : Running → Running → Pairs → (held now : Option (List ℕ)) → (faults faults_now : ℕ) → Result Pairs (Pairs × WorldStop) → Type 0
Collects old new list held now faults faults_now (Ok back) =
    (new ≡ record { scene = old.scene; drift = old.drift; course = with_list old.course list.from list.pairs })
    × Appends held now (taken_text (row_with old.course list.from list.pairs))
    × (faults_now ≡ faults)
Collects old new list held now faults faults_now (Err refused) = Refuses old new list held now faults faults_now refused.0 refused.1

-- which fault of a run a stop of a world is
abbrev pub fault_of : WorldStop → RunFault
fault_of WriteFault = faults.WriteFault
fault_of OutOfMemory = faults.OutOfMemory
