-- What `resume` makes of its input: the scene before the mark, and the run that goes on from the frame behind it.
use Rattle.std.specs.Prelude.{◌≡◌, ℕ, ◌≤◌, true, List, [], ◌++◌, length, codes, None, Result, Ok, Err}
use Rattle.dem_model.specs.SceneValue.{SceneValue}
use Rattle.dem_model.specs.ReadingScene.{scene_from}
use Rattle.dem_model.specs.Frames.{state_text}
use Rattle.dem_model.specs.Plain.{last_after, last_of}
use Rattle.dem_model.specs.Output.{output_of, rest_of}
use Rattle.dem_model.specs.declared.state.State.{State}
use Rattle.dem_save.specs.Loaded.{loaded_of}
use Rattle.dem_save.specs.declared.fault.SaveFault.{SaveFault}
use Rattle.dem_save.specs.declared.fault.SaveFault.TheVariants as faults
use Rattle.dem_jobs.specs.declared.reading.TheConstants.{MAX_INPUT}
use Rattle.dem_jobs.specs.Verdicts.{Verdict, Refused, Written, no_rows, numbered, run_status}
use Rattle.dem_jobs.specs.Marks.{begins_line, mark_in, parted}

-- the line between a scene and its frame
abbrev pub frame_mark : List ℕ
frame_mark = codes "--frame--"

-- ---- the lines

-- the line of an input without a line between its scene and its frame
abbrev pub no_frame_text : List ℕ
no_frame_text = codes "frame: missing\n"

-- the line of a frame that is refused; want of memory is no fault of the input and has none
abbrev pub save_text : SaveFault → List ℕ
save_text (faults.Bad row) = numbered (codes "frame: bad row ") row
save_text (faults.Short rows) = numbered (codes "frame: short ") rows
save_text faults.Step = codes "frame: step\n"
save_text (faults.Body clump) = numbered (codes "frame: body ") clump
save_text (faults.Held place) = numbered (codes "frame: held ") place
save_text faults.OutOfMemory = []

-- ---- the run

-- what follows a state in the run from it, and how that ends; or why there is no state
abbrev pub by_state : SceneValue → Result State SaveFault → Verdict
by_state s (Ok st) = Written (run_status (last_after s st)) (rest_of s st) no_rows
by_state s (Err fault) = Refused 2 (save_text fault)

-- what rows come to that should be a frame from which a run of a scene may go on
unfoldable pub resumed : List ℕ → SceneValue → Verdict
resumed rows s = by_state s (loaded_of s rows)

-- what an input of `resume` comes to
abbrev pub resume_verdict : List ℕ → Verdict
resume_verdict = parted frame_mark no_frame_text (λ text rows. resumed rows)

-- ---- frames of the plain run

-- the text of a scene, the line of the mark, and the frame of a state
abbrev pub with_frame : List ℕ → State → List ℕ
with_frame text st = text ++ (frame_mark ++ (codes "\n" ++ state_text st))

-- a text is that of this scene and may stand before the frame of this state: it ends with its last line, none of its lines is the mark, and there is room
pub record TakesFrame (s : SceneValue) (st : State) (text : List ℕ) : Type 0 where
  pub scene : scene_from text ≡ Ok s
  pub ended : begins_line text (length text) ≡ true
  pub unmarked : mark_in frame_mark text ≡ None
  pub short : length (with_frame text st) ≤ MAX_INPUT

-- an input of this text and the frame of this state comes to what follows that frame in the output of the scene, and to the status of the plain run
pub record GoesOn (s : SceneValue) (st : State) (text : List ℕ) : Type 0 where
  pub before : List ℕ
  pub rest : List ℕ
  pub output : output_of s ≡ before ++ (state_text st ++ rest)
  pub verdict : resume_verdict (with_frame text st) ≡ Written (run_status (last_of s)) rest no_rows
