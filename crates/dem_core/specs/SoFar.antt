-- What a run on lists has written so far, and which rows it has noted.
use Rattle.std.specs.Prelude.{ℕ, ◌≡◌, ◌+◌, ◌<◌, ◌≤◌, List, [], ◌∷◌, ◌++◌, length, Option, Some, None}
use Rattle.std.specs.Io.KnownBytes.{Appends}
use Rattle.std.specs.List.{flat_map, range_with_len, AllByRecursion}
use Rattle.dem_model.specs.SceneValue.{SceneValue}
use Rattle.dem_model.specs.Frames.{state_text}
use Rattle.dem_model.specs.Output.{due_states}
use Rattle.dem_model.specs.Plain.{first_state}
use Rattle.dem_model.specs.declared.state.Last.{Last}
use Rattle.dem_model.specs.declared.state.TakenRow.{TakenRow}
use Rattle.dem_model.specs.World.{Course, end_text, rows_text}
use Rattle.dem_model.specs.TakenRows.{AreRows, BeginsAtFirst, begun, tests_until}

-- the frames of the plain run that are due up to the state of this number
unfoldable pub frames_to : SceneValue → ℕ → List ℕ
frames_to s n = flat_map state_text (due_states s (first_state s) (range_with_len 0 (n + 1)))

-- what a run has written: the frames that are due up to its state, and the end row where it has ended
unfoldable pub text_so_far : SceneValue → Course → List ℕ
text_so_far s c = frames_to s c.state.step ++ end_text c.last

-- how many steps a run has begun
unfoldable pub begun_by : Course → Option Last → ℕ
begun_by c None = c.state.step
begun_by c (Some last) = begun last

-- each row was taken by now, and before the end where the run has ended
abbrev pub AreInTime : Course → Option Last → List TakenRow → Type 0
AreInTime c None rows = AllByRecursion (λ (row : TakenRow). row.at ≤ c.state.step) rows
AreInTime c (Some last) rows = AllByRecursion (λ (row : TakenRow). row.at < begun last) rows

-- the last row is that of the list in use; without a list there is none
abbrev pub EndsWithList : Course → Option ℕ → List TakenRow → Type 0
EndsWithList c None rows = rows ≡ []
EndsWithList c (Some from) rows = (before : List TakenRow) × (rows ≡ before ++ record { from = from; at = c.taken_at; pairs = length c.pairs } ∷ [])

-- these are the rows of the lists that a run has taken into use so far, and its tests are those that they stand for
pub record HasTaken (s : SceneValue) (drift : ℕ) (rows : List TakenRow) (c : Course) : Type 0 where
  pub first : BeginsAtFirst rows
  pub each : AreRows s drift rows (begun_by c c.last)
  pub in_time : AreInTime c c.last rows
  pub newest : EndsWithList c c.from rows
  pub tests : c.tests ≡ tests_until rows (begun_by c c.last)

-- since these moments, the output gained what a run has written so far and the notes its rows so far
pub record HasWritten (s : SceneValue) (drift : ℕ) (out out_now note note_now : Option (List ℕ)) (rows : List TakenRow) (c : Course) : Type 0 where
  pub written : Appends out out_now (text_so_far s c)
  pub noted : Appends note note_now (rows_text rows)
  pub taken : HasTaken s drift rows c
