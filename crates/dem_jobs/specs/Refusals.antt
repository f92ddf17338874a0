-- The status and the line of each refusal, and the status of each outcome.
use Rattle.std.specs.Prelude.{ℕ, List}
use Rattle.dem_model.specs.ReadingFaults.{fault_text}
use Rattle.dem_jobs.specs.Verdicts.{usage_text, bin_text, too_long_text, no_frames_text}
use Rattle.dem_jobs.specs.Packed.{no_pack_text, no_row_text, pack_text}
use Rattle.dem_jobs.specs.Resumed.{no_frame_text, save_text}
use Rattle.dem_jobs.specs.declared.outcome.Outcome.{Outcome}
use Rattle.dem_jobs.specs.declared.outcome.Outcome.TheVariants.{Reached, Passed, Differs}
use Rattle.dem_jobs.specs.declared.refusal.Refusal.{Refusal}
use Rattle.dem_jobs.specs.declared.refusal.Refusal.TheVariants.{Usage, Scene, Bin, TooLong, NoFrames, NoPack, NoRow, Pack, NoFrame, Frame}

-- the status of a job that was done
abbrev pub outcome_status : Outcome → ℕ
outcome_status Reached = 0
outcome_status Passed = 3
outcome_status Differs = 7

-- the status of a refusal
abbrev pub refusal_status : Refusal → ℕ
refusal_status Usage = 1
refusal_status (Scene fault) = 2
refusal_status (Bin cells) = 2
refusal_status TooLong = 2
refusal_status NoFrames = 2
refusal_status NoPack = 2
refusal_status NoRow = 2
refusal_status (Pack fault) = 2
refusal_status NoFrame = 2
refusal_status (Frame fault) = 2

-- the line of a refusal
abbrev pub refusal_text : Refusal → List ℕ
refusal_text Usage = usage_text
refusal_text (Scene fault) = fault_text fault
refusal_text (Bin cells) = bin_text cells
refusal_text TooLong = too_long_text
refusal_text NoFrames = no_frames_text
refusal_text NoPack = no_pack_text
refusal_text NoRow = no_row_text
refusal_text (Pack fault) = pack_text fault
refusal_text NoFrame = no_frame_text
refusal_text (Frame fault) = save_text fault
