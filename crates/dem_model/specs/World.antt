-- The engine on lists: what a world is, which turns it may take, and what a turn makes of it and writes.
use Rattle.std.specs.Prelude.{ℕ, ◌≡◌, ◌+◌, ◌==◌, Bool, true, false, not, ◌&&◌, List, [], ◌∷◌, ◌++◌, length, map, Option, Some, None, is_some, option_and_then, Result, Ok, Err, nat_lt, nat_le, if◌then◌else◌}
use Rattle.std.specs.List.{flat_map}
use Rattle.std.specs.Option.{option_map_or}
use Rattle.dem_num.specs.declared.vector.Vec3.{Vec3}
use Rattle.dem_model.specs.SceneValue.{SceneValue}
use Rattle.dem_model.specs.Centers.{centers_of}
use Rattle.dem_model.specs.Near.{near_of}
use Rattle.dem_model.specs.Carry.{carried}
use Rattle.dem_model.specs.Step.{held_at, step_of}
use Rattle.dem_model.specs.Plain.{first_state}
use Rattle.dem_model.specs.Frames.{last_text, taken_text}
use Rattle.dem_model.specs.Output.{due_text}
use Rattle.dem_model.specs.declared.state.Body.{Body}
use Rattle.dem_model.specs.declared.state.End.{End}
use Rattle.dem_model.specs.declared.state.Last.{Last}
use Rattle.dem_model.specs.declared.state.Last.TheVariants.{Done, Passed}
use Rattle.dem_model.specs.declared.state.Pair.{Pair}
use Rattle.dem_model.specs.declared.state.State.{State}
use Rattle.dem_model.specs.declared.state.TakenRow.{TakenRow}
use Rattle.dem_model.specs.declared.state.Turn.{Turn}
use Rattle.dem_model.specs.declared.state.Turn.TheVariants.{Post, Take, Deliver, Collect, Step}

-- ---- what a world is

-- the number of a step and the bodies there
pub record Snap : Type 0 where
  pub step : ℕ
  pub bodies : List Body

-- where the parcel is: at home, or out with a snapshot that was posted, taken by kinematics, or delivered with its list
pub data Parcel : Type 0 where
  Home : Parcel
  Posted : Snap → Parcel
  Taken : Snap → Parcel
  Delivered : Snap → Parcel

-- how far a run on lists has come
pub record Course : Type 0 where
  -- the state that it has reached
  pub state : State
  -- the step that the list in use was made from, where one is in use
  pub from : Option ℕ
  -- the pairs of the list in use
  pub pairs : List Pair
  -- what is held of each of them
  pub entries : List (Option Vec3)
  -- the step at which the list in use was taken
  pub taken_at : ℕ
  -- the pairs of the list then in use, summed over the steps begun
  pub tests : ℕ
  -- how the run has ended, where it has
  pub last : Option Last

-- a world: a run on lists, and the parcel that brings it new ones
pub record World : Type 0 where
  pub course : Course
  pub parcel : Parcel

-- ---- which turns it may take

-- whether the parcel is at home
unfoldable pub is_home : Parcel → Bool
is_home Home = true
is_home (Posted snap) = false
is_home (Taken snap) = false
is_home (Delivered snap) = false

-- whether the parcel was posted, and not taken yet
unfoldable pub is_posted : Parcel → Bool
is_posted Home = false
is_posted (Posted snap) = true
is_posted (Taken snap) = false
is_posted (Delivered snap) = false

-- whether kinematics has the parcel
unfoldable pub is_taken : Parcel → Bool
is_taken Home = false
is_taken (Posted snap) = false
is_taken (Taken snap) = true
is_taken (Delivered snap) = false

-- whether the parcel was delivered, and not collected yet
unfoldable pub is_delivered : Parcel → Bool
is_delivered Home = false
is_delivered (Posted snap) = false
is_delivered (Taken snap) = false
is_delivered (Delivered snap) = true

-- whether no list is in use, or the world has gone on from the state of the one in use
unfoldable pub is_past : Option ℕ → ℕ → Bool
is_past None now = true
is_past (Some from) now = nat_lt from now

-- whether a list is in use and, at this step, at most the drift limit old
unfoldable pub is_young : ℕ → Option ℕ → ℕ → Bool
is_young drift None now = false
is_young drift (Some from) now = nat_le now (from + drift)

-- whether a run has not ended
unfoldable pub is_open : Course → Bool
is_open c = not (is_some c.last)

-- whether a snapshot may be posted: no list is in use, or it is older than the state
unfoldable pub may_post : Course → Bool
may_post c = is_open c && is_past c.from c.state.step

-- whether a step may be made: a list is in use that isn't too old, and steps are left
unfoldable pub may_step : SceneValue → ℕ → Course → Bool
may_step s drift c = is_open c && is_young drift c.from c.state.step && nat_lt c.state.step s.steps

-- whether a world may take this turn
unfoldable pub enabled : SceneValue → ℕ → World → Turn → Bool
enabled s drift w Post = may_post w.course && is_home w.parcel
enabled s drift w Take = is_open w.course && is_posted w.parcel
enabled s drift w Deliver = is_open w.course && is_taken w.parcel
enabled s drift w Collect = is_open w.course && is_delivered w.parcel
enabled s drift w Step = may_step s drift w.course

-- ---- what a turn makes of it

-- the number and the bodies of a state
unfoldable pub snap_of : State → Snap
snap_of st = record { step = st.step; bodies = st.bodies }

-- the snapshot that a parcel carries; at home it carries none
unfoldable pub carried_by : Parcel → Snap
carried_by Home = record { step = 0; bodies = [] }
carried_by (Posted snap) = snap
carried_by (Taken snap) = snap
carried_by (Delivered snap) = snap

-- the list of a snapshot: the near pairs of its centers
unfoldable pub list_of : SceneValue → ℕ → Snap → List Pair
list_of s drift snap = near_of s drift (centers_of s snap.bodies)

-- the run that has taken a list of these pairs from this step into use: each pair keeps what was held of it
unfoldable pub with_list : Course → ℕ → List Pair → Course
with_list c from new = record c { from = Some from; pairs = new; entries = carried c.pairs c.entries new; taken_at = c.state.step }

-- the run that has taken the list of this snapshot into use
unfoldable pub collected : SceneValue → ℕ → Course → Snap → Course
collected s drift c snap = with_list c snap.step (list_of s drift snap)

-- how a run ends that reaches the state of this number, where that is the last
unfoldable pub done_at : SceneValue → ℕ → Option Last
done_at s n = if n == s.steps then Some (Done n) else None

-- the run after a step: the next state, with what it holds of the pairs in use; or the limit that the step passes
unfoldable pub after_step : SceneValue → Course → Result State End → Course
after_step s c (Ok next) = record c {
  state = next;
  entries = map (held_at next.held) c.pairs;
  tests = c.tests + length c.pairs;
  last = done_at s next.step;
}
after_step s c (Err end) = record c { tests = c.tests + length c.pairs; last = Some (Passed end) }

-- the run after a step: the plain step
unfoldable pub stepped : SceneValue → Course → Course
stepped s c = after_step s c (step_of s c.state)

-- the world with the parcel there
unfoldable pub with_parcel : World → Parcel → World
with_parcel w parcel = record { course = w.course; parcel = parcel }

-- the world after a turn that it may take
unfoldable pub made : SceneValue → ℕ → World → Turn → World
made s drift w Post = with_parcel w (Posted (snap_of w.course.state))
made s drift w Take = with_parcel w (Taken (carried_by w.parcel))
made s drift w Deliver = with_parcel w (Delivered (carried_by w.parcel))
made s drift w Collect = record { course = collected s drift w.course (carried_by w.parcel); parcel = Home }
made s drift w Step = record { course = stepped s w.course; parcel = w.parcel }

-- the world after a turn: one that it may not take changes nothing
unfoldable pub turned : SceneValue → ℕ → World → Turn → World
turned s drift w turn = if enabled s drift w turn then made s drift w turn else w

-- a run at its start: the first state, no list
unfoldable pub first_course : SceneValue → Course
first_course s = record {
  state = first_state s;
  from = None;
  pairs = [];
  entries = [];
  taken_at = 0;
  tests = 0;
  last = done_at s 0;
}

-- the world at the start: the parcel is at home
unfoldable pub first_world : SceneValue → World
first_world s = record { course = first_course s; parcel = Home }

-- ---- what a turn writes

-- the end row, where the run has ended
unfoldable pub end_text : Option Last → List ℕ
end_text last = option_map_or last_text last []

-- what is written where a state is reached: its frame, where it is due, and behind that of the last the end row
unfoldable pub reached_text : SceneValue → State → List ℕ
reached_text s st = due_text s st ++ end_text (done_at s st.step)

-- what a step writes: what is written where the next state is reached, or the end row
unfoldable pub step_text : SceneValue → Result State End → List ℕ
step_text s (Ok next) = reached_text s next
step_text s (Err end) = last_text (Passed end)

-- what a turn that the world may take writes to the output
unfoldable pub made_text : SceneValue → World → Turn → List ℕ
made_text s w Post = []
made_text s w Take = []
made_text s w Deliver = []
made_text s w Collect = []
made_text s w Step = step_text s (step_of s w.course.state)

-- what a turn writes to the output
unfoldable pub turn_text : SceneValue → ℕ → World → Turn → List ℕ
turn_text s drift w turn = if enabled s drift w turn then made_text s w turn else []

-- the row of a list of these pairs from this step, where it is taken into use now
unfoldable pub row_with : Course → ℕ → List Pair → TakenRow
row_with c from new = record { from = from; at = c.state.step; pairs = length new }

-- the row of the list of this snapshot
unfoldable pub row_of : SceneValue → ℕ → Course → Snap → TakenRow
row_of s drift c snap = row_with c snap.step (list_of s drift snap)

-- the taken rows of a turn that the world may take
unfoldable pub made_rows : SceneValue → ℕ → World → Turn → List TakenRow
made_rows s drift w Post = []
made_rows s drift w Take = []
made_rows s drift w Deliver = []
made_rows s drift w Collect = row_of s drift w.course (carried_by w.parcel) ∷ []
made_rows s drift w Step = []

-- the taken rows of a turn
unfoldable pub turn_rows : SceneValue → ℕ → World → Turn → List TakenRow
turn_rows s drift w turn = if enabled s drift w turn then made_rows s drift w turn else []

-- the text of taken rows
unfoldable pub rows_text : List TakenRow → List ℕ
rows_text rows = flat_map taken_text rows

-- the tests of a turn: a step makes one for each pair in use
unfoldable pub made_tests : World → Turn → ℕ
made_tests w Post = 0
made_tests w Take = 0
made_tests w Deliver = 0
made_tests w Collect = 0
made_tests w Step = length w.course.pairs

-- the tests of a turn
unfoldable pub turn_tests : SceneValue → ℕ → World → Turn → ℕ
turn_tests s drift w turn = if enabled s drift w turn then made_tests w turn else 0

-- ---- turns in order

-- the world after these turns
unfoldable pub world_after : SceneValue → ℕ → World → List Turn → World
world_after s drift w [] = w
world_after s drift w (turn ∷ turns) = world_after s drift (turned s drift w turn) turns

-- what these turns write to the output
unfoldable pub text_after : SceneValue → ℕ → World → List Turn → List ℕ
text_after s drift w [] = []
text_after s drift w (turn ∷ turns) = turn_text s drift w turn ++ text_after s drift (turned s drift w turn) turns

-- the taken rows of these turns
unfoldable pub rows_after : SceneValue → ℕ → World → List Turn → List TakenRow
rows_after s drift w [] = []
rows_after s drift w (turn ∷ turns) = turn_rows s drift w turn ++ rows_after s drift (turned s drift w turn) turns

-- the turn with which a world goes on by itself: a step if it may make one, and else the exchange, from its end to its beginning
unfoldable pub next_turn : SceneValue → ℕ → World → Turn
next_turn s drift w =
    if enabled s drift w Step then Step
    else (if enabled s drift w Collect then Collect else (if enabled s drift w Deliver then Deliver else (if enabled s drift w Take then Take else Post)))

-- these are the turns with which a world goes on by itself, as long as its run is open
abbrev pub GoesOnBy : SceneValue → ℕ → World → List Turn → Type 0
GoesOnBy s drift w [] = Unit {0}
GoesOnBy s drift w (turn ∷ turns) = (is_open w.course ≡ true) × (turn ≡ next_turn s drift w) × GoesOnBy s drift (turned s drift w turn) turns

-- the world after a turn, if it may take it
unfoldable pub goes : SceneValue → ℕ → Turn → World → Option World
goes s drift turn w = if enabled s drift w turn then Some (turned s drift w turn) else None

-- the world after these turns, if it may take each
unfoldable pub along : SceneValue → ℕ → Option World → List Turn → Option World
along s drift o [] = o
along s drift o (turn ∷ turns) = along s drift (option_and_then (goes s drift turn) o) turns
