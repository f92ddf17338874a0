-- What the job `resume` comes to once its scene was read, and what it makes of a frame of the plain run.
use Rattle.std.proofs.Common.{◌≡◌, ℕ, List, ◌++◌, length, get_or, Ok, Err, refl, sym, ap, ◌∙◌, subst, arith}
use Rattle.std.proofs.KnownBytes.{Keeps-refl}
use Rattle.dem_outside.specs.Change.{Stream, Change}
use Rattle.dem_model.specs.SceneValue.{SceneValue}
use Rattle.dem_model.specs.ReadingScene.{scene_from}
use Rattle.dem_model.specs.Frames.{state_text}
use Rattle.dem_model.specs.Output.{output_of, rest_of}
use Rattle.dem_model.specs.Plain.{last_after, last_of}
use Rattle.dem_model.specs.declared.state.Last.{Last}
use Rattle.dem_model.specs.declared.state.State.{State}
use Rattle.dem_save.specs.Loaded.{Gives, loaded_of}
use Rattle.dem_save.specs.Resting.{WritesRest}
use Rattle.dem_save.specs.declared.fault.SaveFault.{SaveFault}
use Rattle.dem_save.specs.declared.fault.SaveFault.TheVariants as saves
use Rattle.dem_save.specs.declared.fault.RestFault.{RestFault}
use Rattle.dem_save.specs.declared.fault.RestFault.TheVariants as rests
use Rattle.dem_jobs.specs.declared.outcome.NotDone.TheVariants as stops
use Rattle.dem_jobs.specs.Verdicts.{Written, no_rows, run_status, on_scene}
use Rattle.dem_jobs.specs.Marks.{Meaning, by_mark, behind}
use Rattle.dem_jobs.specs.Resumed.{frame_mark, no_frame_text, by_state, resumed, with_frame, TakesFrame, GoesOn}
use Rattle.dem_jobs.specs.Parts.{save_stop, rest_stop, run_outcome, Comes, idle}
use Rattle.dem_jobs.proofs.JobFacts.{begins-nothing, run-unput, run-no_memory, run-made}
use Rattle.dem_jobs.proofs.InputFacts.{fits-input}
use Rattle.dem_jobs.proofs.MarkFacts.{none_is, marked, before-mark, behind-mark}

module _ (rows : List ℕ) (s : SceneValue) where
  -- the frame is refused, or there was no memory for it
  pub frame-bad : (out note : Stream) (fault : SaveFault) → Gives (Err fault) (loaded_of s rows) → Comes (resumed rows s) (idle out) (idle note) (Err (save_stop fault))
  unfolding resumed
  frame-bad out note saves.OutOfMemory gives = (begins-nothing (by_state s (loaded_of s rows)) out note, refl, refl)
  frame-bad out note fault gives = (ap (by_state s) gives, Keeps-refl out.bytes, Keeps-refl note.bytes, refl, refl)

  module _ (st : State) (is : loaded_of s rows ≡ Ok st) where
    -- it has a state, from which the run goes on
    pub resumed-is : resumed rows s ≡ Written (run_status (last_after s st)) (rest_of s st) no_rows
    unfolding resumed
    resumed-is = ap (by_state s) is

    module _ (out : Change) (note : Stream) where
      -- the run stopped
      pub rest-stopped : (fault : RestFault) → WritesRest s st out.before.bytes out.after.bytes out.before.faults out.after.faults (Err fault) → Comes (resumed rows s) out (idle note) (Err (rest_stop fault))
      rest-stopped rests.WriteFault run = subst (λ v. Comes v out (idle note) (Err stops.WriteFailed)) (sym resumed-is) (run-unput (last_after s st) (rest_of s st) out note run.0 run.1)
      rest-stopped rests.OutOfMemory run = subst (λ v. Comes v out (idle note) (Err stops.OutOfMemory)) (sym resumed-is) (run-no_memory (last_after s st) (rest_of s st) out note run.0 run.1)

      -- the run was made
      pub rest-written : (last : Last) → WritesRest s st out.before.bytes out.after.bytes out.before.faults out.after.faults (Ok last) → Comes (resumed rows s) out (idle note) (Ok (run_outcome last))
      rest-written last run =
          subst (λ v. Comes v out (idle note) (Ok (run_outcome last))) (sym resumed-is) (run-made (last_after s st) (rest_of s st) out note last run.0 run.1 run.2)

-- ---- frames of the plain run

-- the mark is one line
no_newline : (k : ℕ) → get_or frame_mark k 0 ≡ 10 → ⊥
no_newline = none_is 10 frame_mark refl (omega arith)

-- what is read behind the mark
abbrev meaning : Meaning
meaning = λ text rows. resumed rows

-- from the frame of a state of the plain run, what follows it in the output
pub goes-on : (s : SceneValue) (st : State) (text : List ℕ) → TakesFrame s st text → loaded_of s (state_text st) ≡ Ok st → last_after s st ≡ last_of s
    → (front : List ℕ) × (output_of s ≡ front ++ (state_text st ++ rest_of s st)) → GoesOn s st text
goes-on s st text takes loads ends rest =
    let input = with_frame text st in
    let frame = state_text st in
    record {
      before = rest.0;
      rest = rest_of s st;
      output = rest.1;
      verdict =
          fits-input frame_mark no_frame_text meaning input takes.short
          ∙ ap (by_mark frame_mark no_frame_text meaning input) (marked frame_mark text frame takes.ended no_newline takes.unmarked)
          ∙ ap (λ t. on_scene (resumed (behind frame_mark input (length text))) (scene_from t)) (before-mark frame_mark text frame)
          ∙ ap (on_scene (resumed (behind frame_mark input (length text)))) takes.scene
          ∙ ap (λ rows. resumed rows s) (behind-mark frame_mark text frame)
          ∙ resumed-is frame s st loads
          ∙ ap (λ last. Written (run_status last) (rest_of s st) no_rows) ends;
    }
