-- What the parts of a call promise: the reading, the job, and the line on `note`.
use Rattle.std.specs.Prelude.{◌≡◌, ℕ, ◌+◌, ◌<◌, ◌≤◌, List, length, Result, Ok, Err, Vec, ◌⊎◌}
use Rattle.std.specs.Io.KnownBytes.{Consumes, IsAtEnd}
use Rattle.std.specs.declared.alloc.Global.{Global}
use Rattle.dem_outside.specs.Change.{Stream, Change, IsKept, IsCalm, Fails, Gains, GainsPrefix}
use Rattle.dem_model.specs.SceneValue.{SceneValue}
use Rattle.dem_model.specs.ReadingScene.{scene_from}
use Rattle.dem_model.specs.declared.state.Last.{Last}
use Rattle.dem_model.specs.declared.state.Last.TheVariants as lasts
use Rattle.dem_model.specs.declared.fault.SceneFault.{SceneFault}
use Rattle.dem_model.specs.declared.fault.SceneFault.TheVariants as scenes
use Rattle.dem_output.specs.declared.running.RunFault.{RunFault}
use Rattle.dem_output.specs.declared.running.RunFault.TheVariants as runs
use Rattle.dem_bins.specs.declared.grid.BinTooSmall.{BinTooSmall}
use Rattle.dem_core.specs.Worlds.{Turning, BeginsWorld}
use Rattle.dem_core.specs.declared.did.WorldStop.{WorldStop}
use Rattle.dem_core.specs.declared.did.WorldStop.TheVariants as worlds
use Rattle.dem_pack.specs.declared.ask.PackFault.{PackFault}
use Rattle.dem_pack.specs.declared.ask.PackFault.TheVariants as packs
use Rattle.dem_save.specs.declared.fault.SaveFault.{SaveFault}
use Rattle.dem_save.specs.declared.fault.SaveFault.TheVariants as saves
use Rattle.dem_save.specs.declared.fault.RestFault.{RestFault}
use Rattle.dem_save.specs.declared.fault.RestFault.TheVariants as rests
use Rattle.dem_look.specs.declared.looking.LookFault.{LookFault}
use Rattle.dem_look.specs.declared.looking.LookFault.TheVariants as looks
use Rattle.dem_model.specs.Plain.{last_of}
use Rattle.dem_model.specs.Output.{output_of}
use Rattle.dem_model.specs.declared.state.Turn.{Turn}
use Rattle.dem_jobs.specs.declared.reading.ReadFault.{ReadFault}
use Rattle.dem_jobs.specs.declared.reading.ReadFault.TheVariants as reading
use Rattle.dem_jobs.specs.declared.reading.TheConstants.{MAX_INPUT}
use Rattle.dem_jobs.specs.declared.outcome.Outcome.{Outcome}
use Rattle.dem_jobs.specs.declared.outcome.Outcome.TheVariants as outcomes
use Rattle.dem_jobs.specs.declared.outcome.NotDone.{NotDone}
use Rattle.dem_jobs.specs.declared.outcome.NotDone.TheVariants as stops
use Rattle.dem_jobs.specs.declared.refusal.Refusal.TheVariants as refusals
use Rattle.dem_jobs.specs.Verdicts.{Verdict, Refused, Notes, OfTurns, OfThreads, MayNote, MayBegin, read_failed_text}
use Rattle.dem_jobs.specs.Jobs.{Job, ReadsWhole, ForLeft}
use Rattle.dem_jobs.specs.Answers.{Fulfils, Begins}
use Rattle.dem_jobs.specs.Refusals.{outcome_status, refusal_status, refusal_text}

-- ---- why a job wasn't done, by the fault of one of its parts

-- a read that failed, or no memory for what was read
abbrev pub read_stop : ReadFault → NotDone
read_stop reading.Failed = stops.ReadFailed
read_stop reading.OutOfMemory = stops.OutOfMemory

-- a scene text that is refused; no memory is no fault of the text
abbrev pub scene_stop : SceneFault → NotDone
scene_stop scenes.OutOfMemory = stops.OutOfMemory
scene_stop fault = stops.Refused (refusals.Scene fault)

-- a put that failed, or no memory for the run
abbrev pub run_stop : RunFault → NotDone
run_stop runs.WriteFault = stops.WriteFailed
run_stop runs.OutOfMemory = stops.OutOfMemory

-- a side of bins that is too small
abbrev pub bin_stop : BinTooSmall → NotDone
bin_stop too_small = stops.Refused (refusals.Bin too_small.cells)

-- a put that failed, or no memory for the world
abbrev pub world_stop : WorldStop → NotDone
world_stop worlds.WriteFault = stops.WriteFailed
world_stop worlds.OutOfMemory = stops.OutOfMemory

-- a packing that is refused; no memory is no fault of the input
abbrev pub pack_stop : PackFault → NotDone
pack_stop packs.OutOfMemory = stops.OutOfMemory
pack_stop fault = stops.Refused (refusals.Pack fault)

-- a frame that is refused; no memory is no fault of the input
abbrev pub save_stop : SaveFault → NotDone
save_stop saves.OutOfMemory = stops.OutOfMemory
save_stop fault = stops.Refused (refusals.Frame fault)

-- a put that failed, or no memory for the run from a frame on
abbrev pub rest_stop : RestFault → NotDone
rest_stop rests.WriteFault = stops.WriteFailed
rest_stop rests.OutOfMemory = stops.OutOfMemory

-- a put that failed, or no memory for what is seen
abbrev pub look_stop : LookFault → NotDone
look_stop looks.WriteFault = stops.WriteFailed
look_stop looks.OutOfMemory = stops.OutOfMemory

-- why a run by two threads stopped, said as of one by turns
abbrev pub stop_by : RunFault → WorldStop
stop_by runs.WriteFault = worlds.WriteFault
stop_by runs.OutOfMemory = worlds.OutOfMemory

-- how a run ends
abbrev pub run_outcome : Last → Outcome
run_outcome (lasts.Done step) = outcomes.Reached
run_outcome (lasts.Passed e) = outcomes.Passed

-- ---- the reading

-- the source was read to its end, or one byte past this length; or a read failed, or there was no memory
abbrev pub ReadsAll : ℕ → Change → Result (Vec ℕ Global) ReadFault → Type 0
ReadsAll limit source (Ok bytes) =
    Consumes source.before.bytes source.after.bytes bytes.items × (length bytes.items ≤ limit → IsAtEnd source.after.bytes) × (length bytes.items ≤ limit + 1) × IsCalm source
ReadsAll limit source (Err reading.Failed) = Fails source
ReadsAll limit source (Err reading.OutOfMemory) = IsCalm source

-- the scene that the source has, or why there is none
abbrev pub ReadsScene : Change → Result SceneValue NotDone → Type 0
ReadsScene source (Ok scene) = ForLeft source (λ bytes. scene_from bytes ≡ Ok scene) × IsAtEnd source.after.bytes × IsCalm source
ReadsScene source (Err (stops.Refused (refusals.Scene fault))) = ForLeft source (λ bytes. scene_from bytes ≡ Err fault) × IsCalm source
ReadsScene source (Err stops.ReadFailed) = Fails source
ReadsScene source (Err stops.OutOfMemory) = IsCalm source
ReadsScene source (Err fault) = ⊥

-- the input that the source has, where it isn't too long, or why there is none
abbrev pub ReadsInput : Change → Result (Vec ℕ Global) NotDone → Type 0
ReadsInput source (Ok input) = ForLeft source (λ bytes. bytes ≡ input.items) × (length input.items ≤ MAX_INPUT) × IsAtEnd source.after.bytes × IsCalm source
ReadsInput source (Err (stops.Refused refusals.TooLong)) = ForLeft source (λ bytes. MAX_INPUT < length bytes) × IsCalm source
ReadsInput source (Err stops.ReadFailed) = Fails source
ReadsInput source (Err stops.OutOfMemory) = IsCalm source
ReadsInput source (Err fault) = ⊥

-- ---- the run on lists

-- prefixes of the output and of what a run of this scene may note
pub record HasBegun (s : SceneValue) (notes : Notes) (out note : Change) : Type 0 where
  pub written : GainsPrefix out (output_of s)
  pub rows : List ℕ
  pub may_be : MayBegin notes rows
  pub noted : GainsPrefix note rows

-- the whole output and the whole of what a run of this scene may note
pub record HasWritten (s : SceneValue) (notes : Notes) (out note : Change) (last : Last) : Type 0 where
  pub last_is : last ≡ last_of s
  pub written : Gains out (output_of s)
  pub rows : List ℕ
  pub may_be : MayNote notes rows
  pub noted : Gains note rows
  pub calm : IsCalm out × IsCalm note

-- a run of this scene on lists that may note so: all was written; or prefixes, and why
abbrev pub RunsOn : SceneValue → Notes → (out note : Change) → Result Last WorldStop → Type 0
RunsOn s notes out note (Ok last) = HasWritten s notes out note last
RunsOn s notes out note (Err worlds.WriteFault) = HasBegun s notes out note × (Fails out ⊎ Fails note)
RunsOn s notes out note (Err worlds.OutOfMemory) = HasBegun s notes out note × IsCalm out × IsCalm note

-- a run of this scene on lists, with these turns first
abbrev pub RunsTurns : SceneValue → ℕ → List Turn → (out note : Change) → Result Last WorldStop → Type 0
RunsTurns s drift turns = RunsOn s (OfTurns s drift turns)

-- a world whose first frame is written goes on: since the moment before that frame, this is a run by these turns
abbrev pub RunsFrom : Turning → List Turn → (out note : Change) → Result Last WorldStop → Type 0
RunsFrom world turns out note r =
    (first : Stream) → BeginsWorld world.scene (record { drift = world.drift; bin = world.bin }) first.bytes out.before.bytes first.faults out.before.faults (Ok world)
    → RunsTurns world.scene world.drift turns (record { before = first; after = out.after }) note r

-- a run of this scene on lists, by two threads
abbrev pub RunsThreads : SceneValue → ℕ → (out note : Change) → Result Last WorldStop → Type 0
RunsThreads s drift = RunsOn s (OfThreads s drift)

-- ---- the job

-- what is written and noted where an input comes to this verdict, by how the job ended
abbrev pub Comes : Verdict → (out note : Change) → Result Outcome NotDone → Type 0
Comes verdict out note (Ok outcome) = Fulfils verdict out note (outcome_status outcome) × IsCalm out × IsCalm note
Comes verdict out note (Err (stops.Refused refusal)) = (verdict ≡ Refused (refusal_status refusal) (refusal_text refusal)) × IsKept out × IsKept note × IsCalm out × IsCalm note
Comes verdict out note (Err stops.ReadFailed) = ⊥
Comes verdict out note (Err stops.WriteFailed) = Begins verdict out note × (Fails out ⊎ Fails note)
Comes verdict out note (Err stops.OutOfMemory) = Begins verdict out note × IsCalm out × IsCalm note

-- what a job does, by its answer
abbrev pub Does : Job → (source out note : Change) → Result Outcome NotDone → Type 0
Does job source out note (Ok outcome) =
    ForLeft source (λ bytes. Fulfils (job.verdict bytes) out note (outcome_status outcome)) × ReadsWhole job.limit source × IsCalm source × IsCalm out × IsCalm note
Does job source out note (Err (stops.Refused refusal)) =
    ForLeft source (λ bytes. job.verdict bytes ≡ Refused (refusal_status refusal) (refusal_text refusal)) × IsKept out × IsKept note × IsCalm source × IsCalm out × IsCalm note
Does job source out note (Err stops.ReadFailed) = Fails source × IsKept out × IsKept note × IsCalm out × IsCalm note
Does job source out note (Err stops.WriteFailed) = ForLeft source (λ bytes. Begins (job.verdict bytes) out note) × IsCalm source × (Fails out ⊎ Fails note)
Does job source out note (Err stops.OutOfMemory) = ForLeft source (λ bytes. Begins (job.verdict bytes) out note) × IsCalm source × IsCalm out × IsCalm note

-- a sink that isn't touched
abbrev pub idle : Stream → Change
idle sink = record { before = sink; after = sink }

-- what a job does that notes nothing
abbrev pub DoesQuietly : Job → (source out : Change) → Result Outcome NotDone → Type 0
DoesQuietly job source out result = (note : Stream) → Does job source out (idle note) result

-- ---- the line on `note`

-- the line was put, and this is the status; or its put failed
abbrev pub PutsLine : ℕ → List ℕ → Change → ℕ → Type 0
PutsLine right line note status =
    ((status ≡ right) × Gains note line × IsCalm note) ⊎ ((status ≡ 5) × GainsPrefix note line × Fails note)

-- nothing was put, and this is the status
abbrev pub PutsNothing : ℕ → Change → ℕ → Type 0
PutsNothing right note status = (status ≡ right) × IsKept note × IsCalm note

-- what a job's answer puts on `note`, and its status
abbrev pub Tells : Result Outcome NotDone → Change → ℕ → Type 0
Tells (Ok outcome) = PutsNothing (outcome_status outcome)
Tells (Err (stops.Refused refusal)) = PutsLine (refusal_status refusal) (refusal_text refusal)
Tells (Err stops.ReadFailed) = PutsLine 4 read_failed_text
Tells (Err stops.WriteFailed) = PutsNothing 5
Tells (Err stops.OutOfMemory) = PutsNothing 6
