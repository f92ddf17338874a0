-- Inputs of a scene and more: what was read of them, and what a job comes to by its mark.
use Rattle.std.proofs.Common.{◌≡◌, ◌<◌, ◌≤◌, ℕ, List, ◌++◌, length, Option, None, Some, Result, Ok, Err, refl, sym, ap, ◌∙◌, subst, length-append, append-nil, arith}
use Rattle.std.specs.Io.KnownBytes.{Consumes, IsAtEnd}
use Rattle.std.proofs.KnownBytes.{Keeps-refl}
use Rattle.std.proofs.lemmas.Bool.{lt-ltb, le-ltb}
use Rattle.dem_outside.specs.Change.{Stream, Change, IsCalm}
use Rattle.dem_model.specs.SceneValue.{SceneValue}
use Rattle.dem_model.specs.ReadingScene.{scene_from}
use Rattle.dem_model.specs.declared.fault.SceneFault.{SceneFault}
use Rattle.dem_model.specs.declared.fault.SceneFault.TheVariants as scenes
use Rattle.dem_scene.specs.Gives.{Fails}
use Rattle.dem_jobs.specs.declared.outcome.Outcome.{Outcome}
use Rattle.dem_jobs.specs.declared.outcome.NotDone.{NotDone}
use Rattle.dem_jobs.specs.declared.outcome.NotDone.TheVariants as stops
use Rattle.dem_jobs.specs.declared.refusal.Refusal.TheVariants as refusals
use Rattle.dem_jobs.specs.declared.reading.ReadFault.{ReadFault}
use Rattle.dem_jobs.specs.declared.reading.ReadFault.TheVariants as reads
use Rattle.dem_jobs.specs.declared.reading.TheConstants.{MAX_INPUT}
use Rattle.dem_jobs.specs.Verdicts.{Verdict, Refused, on_scene, too_long_text}
use Rattle.dem_jobs.specs.Marks.{Meaning, mark_in, by_mark, parted}
use Rattle.dem_jobs.specs.Jobs.{Job, ForTold, ForLeft, parted_job}
use Rattle.dem_jobs.specs.Answers.{Fulfils, Begins}
use Rattle.dem_jobs.specs.Refusals.{outcome_status, refusal_status, refusal_text}
use Rattle.dem_jobs.specs.Parts.{read_stop, scene_stop, ReadsAll, ReadsInput, Comes, Does, idle}
use Rattle.dem_jobs.proofs.LeftFacts.{ForTold-weaker, ForTold-all}
use Rattle.dem_jobs.proofs.JobFacts.{begins-nothing}

-- ---- what was read

-- more was left than the longest input
still-longer : (left rest : Option (List ℕ)) (read : List ℕ) → Consumes left rest read → MAX_INPUT < length read → ForTold left (λ bytes. MAX_INPUT < length bytes)
still-longer None rest read all long = (read, long)
still-longer (Some bytes) None read all long = absurd all
still-longer (Some bytes) (Some others) read all long = omega (arith, ap length all, length-append read others)

-- all was read that was left
nothing-more : (left rest : Option (List ℕ)) (read : List ℕ) → Consumes left rest read → IsAtEnd rest → ForTold left (λ bytes. bytes ≡ read)
nothing-more None rest read all ends = (read, refl)
nothing-more (Some bytes) None read all ends = absurd all
nothing-more (Some bytes) (Some others) read all ends = all ∙ ap (λ (l : List ℕ). read ++ l) ends ∙ append-nil read

module _ (source : Change) (read : List ℕ) (all : Consumes source.before.bytes source.after.bytes read) (ends : length read ≤ MAX_INPUT → IsAtEnd source.after.bytes) (calm : IsCalm source) where
  -- the input is too long
  pub input-long : MAX_INPUT < length read → ReadsInput source (Err (stops.Refused refusals.TooLong))
  input-long long = (still-longer source.before.bytes source.after.bytes read all long, calm)

  -- it isn't
  pub input-whole : length read ≤ MAX_INPUT → ForLeft source (λ bytes. bytes ≡ read) × (length read ≤ MAX_INPUT) × IsAtEnd source.after.bytes × IsCalm source
  input-whole short = (nothing-more source.before.bytes source.after.bytes read all (ends short), short, ends short, calm)

-- the input wasn't read
pub input-unread : (source : Change) (fault : ReadFault) → ReadsAll MAX_INPUT source (Err fault) → ReadsInput source (Err (read_stop fault))
input-unread source reads.Failed failed = failed
input-unread source reads.OutOfMemory calm = calm

-- ---- the job

module _ (mark missing : List ℕ) (f : Meaning) where
  abbrev job : Job
  job = parted_job mark missing f

  -- an input that is too long is refused for it
  too-long : (bytes : List ℕ) → MAX_INPUT < length bytes → parted mark missing f bytes ≡ Refused 2 too_long_text
  unfolding parted
  too-long bytes long = let e = lt-ltb MAX_INPUT (length bytes) long in rw e refl

  -- one that isn't comes to what its mark says
  pub fits-input : (bytes : List ℕ) → length bytes ≤ MAX_INPUT → parted mark missing f bytes ≡ by_mark mark missing f bytes (mark_in mark bytes)
  unfolding parted
  fits-input bytes short = let e = le-ltb MAX_INPUT (length bytes) short in rw e refl

  -- there was no input
  pub input-undone : (source : Change) (out note : Stream) (stop : NotDone) → ReadsInput source (Err stop) → Does job source (idle out) (idle note) (Err stop)
  input-undone source out note (stops.Refused refusals.TooLong) read = (
    ForTold-weaker source.before.bytes (λ bytes. MAX_INPUT < length bytes) (λ bytes. parted mark missing f bytes ≡ Refused 2 too_long_text) too-long read.0,
    Keeps-refl out.bytes,
    Keeps-refl note.bytes,
    read.1,
    refl,
    refl,
  )
  input-undone source out note (stops.Refused refusals.Usage) read = absurd read
  input-undone source out note (stops.Refused (refusals.Scene fault)) read = absurd read
  input-undone source out note (stops.Refused (refusals.Bin cells)) read = absurd read
  input-undone source out note (stops.Refused refusals.NoFrames) read = absurd read
  input-undone source out note (stops.Refused refusals.NoPack) read = absurd read
  input-undone source out note (stops.Refused refusals.NoRow) read = absurd read
  input-undone source out note (stops.Refused (refusals.Pack fault)) read = absurd read
  input-undone source out note (stops.Refused refusals.NoFrame) read = absurd read
  input-undone source out note (stops.Refused (refusals.Frame fault)) read = absurd read
  input-undone source out note stops.ReadFailed read = (read, Keeps-refl out.bytes, Keeps-refl note.bytes, refl, refl)
  input-undone source out note stops.WriteFailed read = absurd read
  input-undone source out note stops.OutOfMemory read =
      (ForTold-all source.before.bytes (λ bytes. Begins (parted mark missing f bytes) (idle out) (idle note)) (λ bytes. begins-nothing (parted mark missing f bytes) out note), read, refl, refl)

  module _ (source out : Change) (note : Stream) (input : List ℕ) (whole : ForLeft source (λ bytes. bytes ≡ input)) (short : length input ≤ MAX_INPUT) (ends : IsAtEnd source.after.bytes) (calm : IsCalm source) where
    -- what holds of the input's verdict holds of the bytes' verdict
    lifted : (P : Verdict → Type 0) → P (parted mark missing f input) → ForLeft source (λ bytes. P (parted mark missing f bytes))
    lifted P p = ForTold-weaker source.before.bytes (λ bytes. bytes ≡ input) (λ bytes. P (parted mark missing f bytes)) (λ bytes same. subst (λ b. P (parted mark missing f b)) (sym same) p) whole

    by : (r : Result Outcome NotDone) → Comes (parted mark missing f input) out (idle note) r → Does job source out (idle note) r
    by (Ok outcome) c = (lifted (λ v. Fulfils v out (idle note) (outcome_status outcome)) c.0, ends, calm, c.1, c.2)
    by (Err (stops.Refused refusal)) c = (lifted (λ v. v ≡ Refused (refusal_status refusal) (refusal_text refusal)) c.0, c.1, c.2, calm, c.3, c.4)
    by (Err stops.ReadFailed) c = absurd c
    by (Err stops.WriteFailed) c = (lifted (λ v. Begins v out (idle note)) c.0, calm, c.1)
    by (Err stops.OutOfMemory) c = (lifted (λ v. Begins v out (idle note)) c.0, calm, c.1, c.2)

    -- the input was read, and this came of it
    pub input-done : (result : Result Outcome NotDone) → Comes (by_mark mark missing f input (mark_in mark input)) out (idle note) result → Does job source out (idle note) result
    input-done result comes = by result (subst (λ v. Comes v out (idle note) result) (sym (fits-input input short)) comes)

-- ---- the scene

-- the scene before the mark is refused, or there was no memory for it
pub scene-bad : (f : SceneValue → Verdict) (text : List ℕ) (out note : Stream) (fault : SceneFault) → Fails fault (scene_from text)
    → Comes (on_scene f (scene_from text)) (idle out) (idle note) (Err (scene_stop fault))
scene-bad f text out note scenes.OutOfMemory fails = (begins-nothing (on_scene f (scene_from text)) out note, refl, refl)
scene-bad f text out note fault fails = (ap (on_scene f) fails, Keeps-refl out.bytes, Keeps-refl note.bytes, refl, refl)

-- there is a scene before the mark, and this came of it
pub scene-good : (f : SceneValue → Verdict) (text : List ℕ) (s : SceneValue) → scene_from text ≡ Ok s → (out : Change) (note : Stream) (result : Result Outcome NotDone) → Comes (f s) out (idle note) result
    → Comes (on_scene f (scene_from text)) out (idle note) result
scene-good f text s is out note result comes = subst (λ r. Comes (on_scene f r) out (idle note) result) (sym is) comes
