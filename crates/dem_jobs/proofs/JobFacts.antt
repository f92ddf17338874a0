-- What the parts of a job promise, put together.
use Rattle.std.proofs.Common.{◌≡◌, ℕ, List, [], Some, Result, Ok, Err, inl, inr, refl, sym, ap, ◌∙◌, subst}
use Rattle.std.proofs.KnownBytes.{Keeps-refl, Appends-nil}
use Rattle.dem_outside.specs.Change.{Stream, Change, IsCalm, Fails, Gains, GainsPrefix}
use Rattle.dem_outside.proofs.Prefixes.{AppendsPrefix-nil}
use Rattle.dem_model.specs.SceneValue.{SceneValue}
use Rattle.dem_model.specs.ReadingScene.{scene_from}
use Rattle.dem_model.specs.ReadingFaults.{fault_text}
use Rattle.dem_model.specs.Output.{output_of}
use Rattle.dem_model.specs.Plain.{last_of}
use Rattle.dem_model.specs.Look.{looked_at}
use Rattle.dem_model.specs.declared.limits.TheConstants.{MAX_TEXT}
use Rattle.dem_model.specs.declared.state.Last.{Last}
use Rattle.dem_model.specs.declared.state.Last.TheVariants as lasts
use Rattle.dem_output.specs.declared.running.RunFault.{RunFault}
use Rattle.dem_output.specs.declared.running.RunFault.TheVariants as runs
use Rattle.dem_output.specs.Running.{WritesRun}
use Rattle.dem_look.specs.declared.looking.LookFault.{LookFault}
use Rattle.dem_look.specs.declared.looking.LookFault.TheVariants as looks
use Rattle.dem_look.specs.Looking.{WritesLook}
use Rattle.dem_jobs.specs.declared.outcome.Outcome.{Outcome}
use Rattle.dem_jobs.specs.declared.outcome.NotDone.{NotDone}
use Rattle.dem_jobs.specs.declared.outcome.NotDone.TheVariants as stops
use Rattle.dem_jobs.specs.declared.refusal.Refusal.TheVariants as refusals
use Rattle.dem_jobs.specs.Verdicts.{Verdict, Refused, Written, Notes, Exactly, OfTurns, OfThreads, MayNote, MayBegin, MayGain, MayStart, no_rows, out_text, run_status, run_verdict, on_scene, plain_verdict, looks_of, look_verdict}
use Rattle.dem_jobs.specs.Jobs.{Job, ForLeft}
use Rattle.dem_jobs.specs.Answers.{Fulfils, Begins}
use Rattle.dem_jobs.specs.Refusals.{outcome_status, refusal_status, refusal_text}
use Rattle.dem_jobs.specs.Parts.{run_stop, look_stop, run_outcome, ReadsScene, Comes, Does, idle}
use Rattle.dem_jobs.proofs.LeftFacts.{ForTold-weaker, ForTold-all}

-- ---- nothing written, nothing noted

-- what may be noted in the end may be on the way to it
note-begins : (notes : Notes) (rows : List ℕ) → MayNote notes rows → MayBegin notes rows
note-begins (Exactly rows') rows may = may
note-begins (OfTurns s drift turns) rows may = inr may
note-begins (OfThreads s drift) rows may = inr may

pub gain-starts : (v : Verdict) (rows : List ℕ) → MayGain v rows → MayStart v rows
gain-starts (Refused status line) rows may = may
gain-starts (Written status text notes) rows may = note-begins notes rows may

-- something may be noted on the way, by any verdict
some-notes : (notes : Notes) → (rows : List ℕ) × MayBegin notes rows
some-notes (Exactly rows) = (rows, refl)
some-notes (OfTurns s drift turns) = (_, inl (record { more = []; by_itself = tt; text = refl }))
some-notes (OfThreads s drift) = ([], inl refl)

some-rows : (v : Verdict) → (rows : List ℕ) × MayStart v rows
some-rows (Refused status line) = (line, refl)
some-rows (Written status text notes) = some-notes notes

-- nothing is a prefix of anything
pub begins-nothing : (v : Verdict) (out note : Stream) → Begins v (idle out) (idle note)
begins-nothing v out note =
    let some = some-rows v in
    record { written = AppendsPrefix-nil out.bytes (out_text v); rows = some.0; may_be = some.1; noted = AppendsPrefix-nil note.bytes some.0 }

-- ---- a job that reads a scene

module _ (f : SceneValue → Verdict) (verdict : List ℕ → Verdict) (each : (bytes : List ℕ) → verdict bytes ≡ on_scene f (scene_from bytes)) where
  abbrev job : Job
  job = record { limit = Some MAX_TEXT; verdict = verdict }

  -- there was no scene
  pub scene-undone : (source : Change) (out note : Stream) (stop : NotDone) → ReadsScene source (Err stop) → Does job source (idle out) (idle note) (Err stop)
  scene-undone source out note (stops.Refused (refusals.Scene fault)) read = (
    ForTold-weaker source.before.bytes (λ bytes. scene_from bytes ≡ Err fault) (λ bytes. verdict bytes ≡ Refused 2 (fault_text fault)) (λ bytes is. each bytes ∙ ap (on_scene f) is) read.0,
    Keeps-refl out.bytes,
    Keeps-refl note.bytes,
    read.1,
    refl,
    refl,
  )
  scene-undone source out note (stops.Refused refusals.Usage) read = absurd read
  scene-undone source out note (stops.Refused (refusals.Bin cells)) read = absurd read
  scene-undone source out note (stops.Refused refusals.TooLong) read = absurd read
  scene-undone source out note (stops.Refused refusals.NoFrames) read = absurd read
  scene-undone source out note (stops.Refused refusals.NoPack) read = absurd read
  scene-undone source out note (stops.Refused refusals.NoRow) read = absurd read
  scene-undone source out note (stops.Refused (refusals.Pack fault)) read = absurd read
  scene-undone source out note (stops.Refused refusals.NoFrame) read = absurd read
  scene-undone source out note (stops.Refused (refusals.Frame fault)) read = absurd read
  scene-undone source out note stops.ReadFailed read = (read, Keeps-refl out.bytes, Keeps-refl note.bytes, refl, refl)
  scene-undone source out note stops.WriteFailed read = absurd read
  scene-undone source out note stops.OutOfMemory read =
      (ForTold-all source.before.bytes (λ bytes. Begins (verdict bytes) (idle out) (idle note)) (λ bytes. begins-nothing (verdict bytes) out note), read, refl, refl)

  module _ (source out note : Change) (s : SceneValue) (read : ReadsScene source (Ok s)) where
    -- what holds of the scene's verdict holds of the bytes' verdict
    lifted : (P : Verdict → Type 0) → P (f s) → ForLeft source (λ bytes. P (verdict bytes))
    lifted P p =
        ForTold-weaker source.before.bytes (λ bytes. scene_from bytes ≡ Ok s) (λ bytes. P (verdict bytes)) (λ bytes is. subst P (sym (each bytes ∙ ap (on_scene f) is)) p) read.0

    -- a scene was read, and this came of it
    pub scene-done : (result : Result Outcome NotDone) → Comes (f s) out note result → Does job source out note result
    scene-done (Ok outcome) comes = (lifted (λ v. Fulfils v out note (outcome_status outcome)) comes.0, read.1, read.2, comes.1, comes.2)
    scene-done (Err (stops.Refused refusal)) comes =
        (lifted (λ v. v ≡ Refused (refusal_status refusal) (refusal_text refusal)) comes.0, comes.1, comes.2, read.2, comes.3, comes.4)
    scene-done (Err stops.ReadFailed) comes = absurd comes
    scene-done (Err stops.WriteFailed) comes = (lifted (λ v. Begins v out note) comes.0, read.2, comes.1)
    scene-done (Err stops.OutOfMemory) comes = (lifted (λ v. Begins v out note) comes.0, read.2, comes.1, comes.2)

-- ---- a text that is written while a run is made

-- the status of a run is that of its end
pub same_status : (last : Last) → outcome_status (run_outcome last) ≡ run_status last
same_status (lasts.Done step) = refl
same_status (lasts.Passed e) = refl

module _ (end : Last) (text : List ℕ) (out : Change) (note : Stream) where
  abbrev verdict : Verdict
  verdict = Written (run_status end) text no_rows

  begun : GainsPrefix out text → Begins verdict out (idle note)
  begun written = record { written = written; rows = []; may_be = refl; noted = AppendsPrefix-nil note.bytes [] }

  -- a put failed
  pub run-unput : GainsPrefix out text → Fails out → Comes verdict out (idle note) (Err stops.WriteFailed)
  run-unput written failed = (begun written, inl failed)

  -- there was no memory
  pub run-no_memory : GainsPrefix out text → IsCalm out → Comes verdict out (idle note) (Err stops.OutOfMemory)
  run-no_memory written calm = (begun written, calm, refl)

  -- the whole was written, and the run ended so
  pub run-made : (last : Last) → last ≡ end → Gains out text → IsCalm out → Comes verdict out (idle note) (Ok (run_outcome last))
  run-made last is written calm = (
    record { status_is = same_status last ∙ ap run_status is; written = written; rows = []; may_be = refl; noted = Appends-nil note.bytes },
    calm,
    refl,
  )

-- ---- the plain run

pub plain-each : (bytes : List ℕ) → plain_verdict bytes ≡ on_scene (run_verdict no_rows) (scene_from bytes)
unfolding plain_verdict
plain-each bytes = refl

module _ (out : Change) (note : Stream) (s : SceneValue) where
  -- the run stopped
  pub plain-stopped : (fault : RunFault) → WritesRun s out.before.bytes out.after.bytes out.before.faults out.after.faults (Err fault) → Comes (run_verdict no_rows s) out (idle note) (Err (run_stop fault))
  plain-stopped runs.WriteFault run = run-unput (last_of s) (output_of s) out note run.0 run.1
  plain-stopped runs.OutOfMemory run = run-no_memory (last_of s) (output_of s) out note run.0 run.1

  -- the run was made
  pub plain-written : (last : Last) → WritesRun s out.before.bytes out.after.bytes out.before.faults out.after.faults (Ok last) → Comes (run_verdict no_rows s) out (idle note) (Ok (run_outcome last))
  plain-written last run = run-made (last_of s) (output_of s) out note last run.0 run.1 run.2

-- ---- what is seen of it

pub look-each : (bytes : List ℕ) → look_verdict bytes ≡ on_scene looks_of (scene_from bytes)
unfolding look_verdict
look-each bytes = refl

module _ (out : Change) (note : Stream) (s : SceneValue) where
  -- the run stopped
  pub look-stopped : (fault : LookFault) → WritesLook s out.before.bytes out.after.bytes out.before.faults out.after.faults (Err fault) → Comes (looks_of s) out (idle note) (Err (look_stop fault))
  look-stopped looks.WriteFault run = run-unput (last_of s) (looked_at s) out note run.0 run.1
  look-stopped looks.OutOfMemory run = run-no_memory (last_of s) (looked_at s) out note run.0 run.1

  -- the run was made
  pub look-written : (last : Last) → WritesLook s out.before.bytes out.after.bytes out.before.faults out.after.faults (Ok last) → Comes (looks_of s) out (idle note) (Ok (run_outcome last))
  look-written last run = run-made (last_of s) (looked_at s) out note last run.0 run.1 run.2
