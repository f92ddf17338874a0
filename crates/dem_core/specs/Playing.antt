-- What a world comes to along the turns of its rows.
use Rattle.std.specs.Prelude.{ℕ, ◌≡◌, List, ◌++◌, Some}
use Rattle.dem_model.specs.SceneValue.{SceneValue}
use Rattle.dem_model.specs.Plain.{first_state, last_of}
use Rattle.dem_model.specs.Output.{output_of}
use Rattle.dem_model.specs.World.{Course, World, first_world, reached_text, along, world_after, text_after, rows_after}
use Rattle.dem_model.specs.TakenRows.{IsLegal, spell, tests_of}
use Rattle.dem_model.specs.declared.state.Last.{Last}
use Rattle.dem_model.specs.declared.state.TakenRow.{TakenRow}
use Rattle.dem_model.specs.declared.state.Turn.{Turn}
use Rattle.dem_core.specs.Courses.{IsOnCourse}
use Rattle.dem_core.specs.SoFar.{text_so_far, HasTaken}
use Rattle.dem_core.specs.Worlds.{HasParcel}

-- along the spell of these rows the world may take every turn; the run ends so, with the whole output, these rows, and their tests
pub record Plays (s : SceneValue) (drift : ℕ) (rows : List TakenRow) (last : Last) : Type 0 where
  pub world : World
  pub made : along s drift (Some (first_world s)) (spell rows last) ≡ Some world
  pub ended : world.course.last ≡ Some last
  pub written : reached_text s (first_state s) ++ text_after s drift (first_world s) (spell rows last) ≡ output_of s
  pub noted : rows_after s drift (first_world s) (spell rows last) ≡ rows
  pub tests : world.course.tests ≡ tests_of rows last

-- a run that has ended: all that it has written is the output, it ends as the plain run does, its rows are those that such a run may have, and its tests are theirs
pub record IsWhole (s : SceneValue) (drift : ℕ) (text : List ℕ) (rows : List TakenRow) (c : Course) (last : Last) : Type 0 where
  pub written : text ≡ output_of s
  pub last_is : last ≡ last_of s
  pub legal : IsLegal s drift last rows
  pub tests : c.tests ≡ tests_of rows last

-- what holds of a world with this text and these rows: it stands at a state of the plain run on a list of that run, its parcel carries a snapshot of that run,
-- the text and the rows are what it has come to, and once it has ended they are whole
pub record HasCome (s : SceneValue) (drift : ℕ) (text : List ℕ) (rows : List TakenRow) (w : World) : Type 0 where
  pub course : IsOnCourse s drift w.course
  pub parcel : HasParcel s w.course w.parcel
  pub written : text ≡ text_so_far s w.course
  pub taken : HasTaken s drift rows w.course
  pub whole : (last : Last) → w.course.last ≡ Some last → IsWhole s drift text rows w.course last

-- so do all turns from the start, whether the world may take each of them or not
abbrev pub ComesBy : SceneValue → ℕ → List Turn → Type 0
ComesBy s drift turns =
    HasCome s drift (reached_text s (first_state s) ++ text_after s drift (first_world s) turns) (rows_after s drift (first_world s) turns) (world_after s drift (first_world s) turns)
