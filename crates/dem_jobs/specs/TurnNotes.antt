-- The rows that a run on lists notes, by given turns or by two threads.
use Rattle.std.specs.Prelude.{◌≡◌, ℕ, false, List, ◌++◌}
use Rattle.dem_model.specs.SceneValue.{SceneValue}
use Rattle.dem_model.specs.Plain.{last_of}
use Rattle.dem_model.specs.Frames.{tests_text}
use Rattle.dem_model.specs.World.{World, is_open, first_world, world_after, rows_after, rows_text, GoesOnBy}
use Rattle.dem_model.specs.TakenRows.{IsLegal, tests_of}
use Rattle.dem_model.specs.declared.state.TakenRow.{TakenRow}
use Rattle.dem_model.specs.declared.state.Turn.{Turn}

-- the world after these turns from the start
abbrev pub reached : SceneValue → ℕ → List Turn → World
reached s drift turns = world_after s drift (first_world s) turns

-- the taken rows of these turns from the start
abbrev pub taken : SceneValue → ℕ → List Turn → List TakenRow
taken s drift turns = rows_after s drift (first_world s) turns

-- the whole of what a run with these turns first notes: more turns follow with which the run goes on by itself to its end; its taken rows, which
-- are legal, and the row of the tests that they stand for
pub record NotesWhole (s : SceneValue) (drift : ℕ) (turns : List Turn) (noted : List ℕ) : Type 0 where
  pub more : List Turn
  pub by_itself : GoesOnBy s drift (reached s drift turns) more
  pub ended : is_open (reached s drift (turns ++ more)).course ≡ false
  pub legal : IsLegal s drift (last_of s) (taken s drift (turns ++ more))
  pub text : noted ≡ rows_text (taken s drift (turns ++ more)) ++ tests_text (tests_of (taken s drift (turns ++ more)) (last_of s))

-- what it may have noted on the way: the taken rows up to some turn
pub record NotesSoFar (s : SceneValue) (drift : ℕ) (turns : List Turn) (noted : List ℕ) : Type 0 where
  pub more : List Turn
  pub by_itself : GoesOnBy s drift (reached s drift turns) more
  pub text : noted ≡ rows_text (taken s drift (turns ++ more))

-- the whole of what a run by two threads notes: taken rows that a run may have, and the row of the tests that they stand for
pub record NotesLegal (s : SceneValue) (drift : ℕ) (noted : List ℕ) : Type 0 where
  pub taken_rows : List TakenRow
  pub legal : IsLegal s drift (last_of s) taken_rows
  pub text : noted ≡ rows_text taken_rows ++ tests_text (tests_of taken_rows (last_of s))
