-- A world as contracts see it: what holds of each, and what a turn and the turns of `finish` change and write.
use Rattle.std.specs.Prelude.{ℕ, ◌≡◌, ◌+◌, ◌⊎◌, ◌≤◌, Bool, true, false, List, [], ◌∷◌, length, Option, Some, None, Result, Ok, Err, if◌then◌else◌}
use Rattle.std.specs.Io.KnownBytes.{Appends, Keeps}
use Rattle.dem_outside.specs.Faults.{Rose}
use Rattle.dem_outside.specs.Known.{AppendsPrefix}
use Rattle.dem_model.specs.SceneValue.{SceneValue}
use Rattle.dem_model.specs.Centers.{centers_of}
use Rattle.dem_model.specs.Output.{output_of}
use Rattle.dem_model.specs.Plain.{first_state, plain_at, last_of}
use Rattle.dem_model.specs.declared.state.Last.{Last}
use Rattle.dem_model.specs.declared.state.Turn.{Turn}
use Rattle.dem_model.specs.declared.state.Turn.TheVariants.{Post, Take, Deliver, Collect, Step}
use Rattle.dem_shape.specs.declared.snapshot.Snapshot.{Snapshot}
use Rattle.dem_list.specs.Ascending.{Pairs}
use Rattle.dem_margin.specs.NearList.{IsNearListOf}
use Rattle.dem_bins.specs.Bins.{GridValue, IsGridOf, most_tests}
use Rattle.dem_step.specs.Stepper.{IsSnapshotOfRun, state_at}
use Rattle.dem_model.specs.World.{Snap, Parcel, Home, Posted, Taken, Delivered, Course, World, carried_by, is_past, enabled, turned, first_world, reached_text, rows_text, world_after, text_after, rows_after, next_turn, GoesOnBy}
use Rattle.dem_core.specs.Courses.{Running}
use Rattle.dem_core.specs.SoFar.{text_so_far}
use Rattle.dem_core.specs.declared.parcel.Parcel.{Parcel as Room}
use Rattle.dem_core.specs.declared.did.Did.{Did}
use Rattle.dem_core.specs.declared.did.Did.TheVariants as did
use Rattle.dem_core.specs.declared.did.WorldStop.{WorldStop}
use Rattle.dem_core.specs.declared.did.WorldStop.TheVariants.{WriteFault, OutOfMemory}
use Rattle.dem_core.specs.declared.parcel.Place.{Place}
use Rattle.dem_core.specs.declared.parcel.Place.TheVariants as place

-- a world of a scene, the drift limit and the side of the grid that makes its lists, and whether a failed put has stopped it
pub record Turning : Type 0 where
  pub scene : SceneValue
  pub drift : ℕ
  pub bin : ℕ
  pub world : World
  pub stopped : Bool

-- ---- what holds of each

-- a snapshot that is out is of the plain run, not later than now, later than the list in use, and not before the step at which that was taken
pub record IsOut (s : SceneValue) (c : Course) (snap : Snap) : Type 0 where
  pub there : plain_at s snap.step ≡ Some (state_at s snap.step)
  pub bodies : snap.bodies ≡ (state_at s snap.step).bodies
  pub past : snap.step ≤ c.state.step
  pub newer : is_past c.from snap.step ≡ true
  pub since : c.taken_at ≤ snap.step

-- what the parcel of a world carries
abbrev pub HasParcel : SceneValue → Course → Parcel → Type 0
HasParcel s c Home = Unit {0}
HasParcel s c (Posted snap) = IsOut s c snap
HasParcel s c (Taken snap) = IsOut s c snap
HasParcel s c (Delivered snap) = IsOut s c snap

-- the snapshot of a parcel
abbrev pub seen : Snapshot → Snap
seen snap = record { step = snap.step; bodies = snap.bodies }

-- a parcel, from where it is and the snapshot in it
unfoldable pub parcel_of : Place → Snapshot → Parcel
parcel_of place.Home snap = Home
parcel_of place.Posted snap = Posted (seen snap)
parcel_of place.Taken snap = Taken (seen snap)
parcel_of place.Delivered snap = Delivered (seen snap)

-- a world, from what is stored of it
abbrev pub world_of : Running → ℕ → Place → Snapshot → Bool → Turning
world_of run bin place snap stopped = record { scene = run.scene; drift = run.drift; bin = bin; world = record { course = run.course; parcel = parcel_of place snap }; stopped = stopped }

-- what the room of a parcel holds: a snapshot of the run, and once it is delivered its near list
abbrev pub Carries : SceneValue → ℕ → Course → Place → Snapshot → Pairs → Type 0
Carries s drift c place.Home snap list = Unit {0}
Carries s drift c place.Posted snap list = IsOut s c (seen snap) × IsSnapshotOfRun s snap
Carries s drift c place.Taken snap list = IsOut s c (seen snap) × IsSnapshotOfRun s snap
Carries s drift c place.Delivered snap list = IsOut s c (seen snap) × IsSnapshotOfRun s snap × IsNearListOf s drift snap list

-- what a world keeps: its grid is one for this scene, its course is of this scene and under the grid's drift limit; the room of the parcel
-- has a body for each clump, and holds what it has to
pub record IsKept (s : SceneValue) (grid : GridValue) (run : Running) (parcel : Room) : Type 0 where
  pub grid_is : IsGridOf s grid
  pub scene : run.scene ≡ s
  pub drift : run.drift ≡ grid.drift
  pub room : length parcel.snap.bodies ≡ length s.clumps
  pub carries : Carries s grid.drift run.course parcel.place parcel.snap parcel.list

-- ---- what a turn changes

-- the world after this turn, stopped or not
abbrev pub with_turn : Turning → Turn → Bool → Turning
with_turn old turn stopped = record { scene = old.scene; drift = old.drift; bin = old.bin; world = turned old.scene old.drift old.world turn; stopped = stopped }

-- the turns that take memory
abbrev pub TakesMemory : Turn → Type 0
TakesMemory Post = ⊥
TakesMemory Take = ⊥
TakesMemory Deliver = Unit {0}
TakesMemory Collect = Unit {0}
TakesMemory Step = ⊥

-- a turn: one that the world may not take changes nothing; one that it may take is made, and has ended the run exactly where the answer says so;
-- after a failed put the world is stopped; after a refusal of memory nothing has changed
abbrev pub Turns : Turning → Turning → Turn → Result Did WorldStop → Type 0
Turns old new turn (Ok did.Idle) = (enabled old.scene old.drift old.world turn ≡ false) × (new ≡ old)
Turns old new turn (Ok did.Moved) = (enabled old.scene old.drift old.world turn ≡ true) × (new ≡ with_turn old turn false) × (new.world.course.last ≡ None)
Turns old new turn (Ok (did.Closed last)) = (enabled old.scene old.drift old.world turn ≡ true) × (new ≡ with_turn old turn false) × (new.world.course.last ≡ Some last)
Turns old new turn (Err WriteFault) = (enabled old.scene old.drift old.world turn ≡ true) × (new ≡ with_turn old turn true)
Turns old new turn (Err OutOfMemory) = (enabled old.scene old.drift old.world turn ≡ true) × TakesMemory turn × (new ≡ old)

-- what a sink gains by a turn: its text; or a prefix of it, where a put failed; or nothing, where memory was refused
abbrev pub Gains : {A : Type 0} → (text : List ℕ) → (held now : Option (List ℕ)) → Result A WorldStop → Type 0
Gains text held now (Ok _) = Appends held now text
Gains text held now (Err WriteFault) = AppendsPrefix held now text
Gains text held now (Err OutOfMemory) = Keeps held now

-- the count of a sink rose where a put failed, and else it stayed
abbrev pub HasCount : {A : Type 0} → (faults faults_now : ℕ) → Result A WorldStop → Type 0
HasCount faults faults_now (Ok _) = faults_now ≡ faults
HasCount faults faults_now (Err WriteFault) = Rose faults faults_now
HasCount faults faults_now (Err OutOfMemory) = faults_now ≡ faults

-- the count of one of the sinks rose where a put failed; else neither changed
abbrev pub HasFaults : {A : Type 0} → (out out_now note note_now : ℕ) → Result A WorldStop → Type 0
HasFaults out out_now note note_now (Ok _) = (out_now ≡ out) × (note_now ≡ note)
HasFaults out out_now note note_now (Err WriteFault) = (Rose out out_now × (note_now ≡ note)) ⊎ (Rose note note_now × (out_now ≡ out))
HasFaults out out_now note note_now (Err OutOfMemory) = (out_now ≡ out) × (note_now ≡ note)

-- how many tests a turn that the world may take counts at most: a step one for each pair in use, the making of a list what the grid needs
abbrev pub most_made : SceneValue → GridValue → World → Turn → ℕ
most_made s grid w Post = 0
most_made s grid w Take = 0
most_made s grid w Deliver = most_tests s grid (centers_of s (carried_by w.parcel).bodies)
most_made s grid w Collect = 0
most_made s grid w Step = length w.course.pairs

-- how many tests a turn counts at most
unfoldable pub most_of_turn : Turning → Turn → ℕ
most_of_turn old turn = if enabled old.scene old.drift old.world turn then most_made old.scene (record { drift = old.drift; bin = old.bin }) old.world turn else 0

-- no put failed
abbrev pub NoPut : {A : Type 0} → Result A WorldStop → Type 0
NoPut (Ok _) = Unit {0}
NoPut (Err WriteFault) = ⊥
NoPut (Err OutOfMemory) = Unit {0}

-- a world begins: its first frame was written, and the end row where it has no steps; or a prefix of that, and why
abbrev pub BeginsWorld : SceneValue → GridValue → (held now : Option (List ℕ)) → (faults faults_now : ℕ) → Result Turning WorldStop → Type 0
BeginsWorld s grid held now faults faults_now (Ok new) =
    (new ≡ record { scene = s; drift = grid.drift; bin = grid.bin; world = first_world s; stopped = false })
    × Appends held now (reached_text s (first_state s))
    × (faults_now ≡ faults)
BeginsWorld s grid held now faults faults_now (Err WriteFault) = AppendsPrefix held now (reached_text s (first_state s)) × Rose faults faults_now
BeginsWorld s grid held now faults faults_now (Err OutOfMemory) = Keeps held now × (faults_now ≡ faults)

-- ---- what the turns of `finish` change

-- a world has ended as the plain run does, and what it has written is the whole output
pub record HasEnded (now : Turning) (last : Last) : Type 0 where
  pub ended : now.world.course.last ≡ Some last
  pub last_is : last ≡ last_of now.scene
  pub whole : text_so_far now.scene now.world.course ≡ output_of now.scene

-- the world after these turns, stopped or not
abbrev pub with_turns : Turning → List Turn → Bool → Turning
with_turns old turns stopped = record { scene = old.scene; drift = old.drift; bin = old.bin; world = world_after old.scene old.drift old.world turns; stopped = stopped }

-- where these turns lead: the run has ended; or a failed put has stopped the world; or memory was refused to the next turn
abbrev pub LeadTo : Turning → List Turn → Turning → Result Last WorldStop → Type 0
LeadTo old turns new (Ok last) = (new ≡ with_turns old turns false) × (new.world.course.last ≡ Some last)
LeadTo old turns new (Err WriteFault) = new ≡ with_turns old turns true
LeadTo old turns new (Err OutOfMemory) = (new ≡ with_turns old turns false) × TakesMemory (next_turn new.scene new.drift new.world)

-- what a sink gains by these turns: their text; or a prefix of it, where a put failed
abbrev pub GainsAll : {A : Type 0} → (text : List ℕ) → (held now : Option (List ℕ)) → Result A WorldStop → Type 0
GainsAll text held now (Ok _) = Appends held now text
GainsAll text held now (Err WriteFault) = AppendsPrefix held now text
GainsAll text held now (Err OutOfMemory) = Appends held now text

-- how many tests these turns count at most
unfoldable pub most_of_turns : Turning → List Turn → ℕ
most_of_turns old [] = 0
most_of_turns old (turn ∷ turns) = most_of_turn old turn + most_of_turns (with_turn old turn false) turns

-- how many tests the turn to which memory was refused counts at most
abbrev pub most_of_refused : Turning → Result Last WorldStop → ℕ
most_of_refused new (Ok last) = 0
most_of_refused new (Err WriteFault) = 0
most_of_refused new (Err OutOfMemory) = most_of_turn new (next_turn new.scene new.drift new.world)

-- the world goes on by itself by some turns
pub record GoesOn (old new : Turning) (out out_now note note_now : Option (List ℕ)) (tests tests_now : ℕ) (result : Result Last WorldStop) : Type 0 where
  pub turns : List Turn
  pub by_itself : GoesOnBy old.scene old.drift old.world turns
  pub ends : LeadTo old turns new result
  pub written : GainsAll (text_after old.scene old.drift old.world turns) out out_now result
  pub noted : GainsAll (rows_text (rows_after old.scene old.drift old.world turns)) note note_now result
  pub counted : tests_now ≤ tests + most_of_turns old turns + most_of_refused new result
