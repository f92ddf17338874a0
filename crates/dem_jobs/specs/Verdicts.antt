-- What an input comes to: a status, a text on `out`, and what `note` may gain.
use Rattle.std.specs.Prelude.{◌≡◌, ℕ, List, [], ◌++◌, ◌⊎◌, codes, decimal, Result, Ok, Err, nat_lt, if◌then◌else◌}
use Rattle.dem_bins.specs.Bins.{grid_of, cells_across}
use Rattle.dem_bins.specs.declared.grid.TheConstants.{MAX_CELLS}
use Rattle.dem_words.specs.Orders.{OrderValue}
use Rattle.dem_jobs.specs.TurnNotes.{NotesWhole, NotesSoFar, NotesLegal}
use Rattle.dem_model.specs.declared.state.Turn.{Turn}
use Rattle.dem_model.specs.SceneValue.{SceneValue}
use Rattle.dem_model.specs.declared.fault.SceneFault.{SceneFault}
use Rattle.dem_model.specs.declared.state.Last.{Last}
use Rattle.dem_model.specs.declared.state.Last.TheVariants.{Done, Passed}
use Rattle.dem_model.specs.ReadingScene.{scene_from}
use Rattle.dem_model.specs.ReadingFaults.{fault_text}
use Rattle.dem_model.specs.Plain.{last_of}
use Rattle.dem_model.specs.Output.{output_of}
use Rattle.dem_model.specs.Look.{looked_at}

-- which rows a job may put on `note`
pub data Notes : Type 0 where
  -- these and no others, as one text
  Exactly : List ℕ → Notes
  -- those of a run of this scene on lists under this drift limit, with these turns first
  OfTurns : SceneValue → ℕ → List Turn → Notes
  -- those of a run of this scene by two threads under this drift limit
  OfThreads : SceneValue → ℕ → Notes

-- no rows at all
abbrev pub no_rows : Notes
no_rows = Exactly []

-- these rows may be noted
abbrev pub MayNote : Notes → List ℕ → Type 0
MayNote (Exactly rows) noted = noted ≡ rows
MayNote (OfTurns s drift turns) noted = NotesWhole s drift turns noted
MayNote (OfThreads s drift) noted = NotesLegal s drift noted

-- these rows may have been noted when a job is cut short, or a prefix of them
abbrev pub MayBegin : Notes → List ℕ → Type 0
MayBegin (Exactly rows) noted = noted ≡ rows
MayBegin (OfTurns s drift turns) noted = NotesSoFar s drift turns noted ⊎ NotesWhole s drift turns noted
MayBegin (OfThreads s drift) noted = (noted ≡ []) ⊎ NotesLegal s drift noted

-- what an input comes to: it is refused, with a status and a line on `note`; or a text is written, with a status and rows that may be noted
pub data Verdict : Type 0 where
  Refused : ℕ → List ℕ → Verdict
  Written : ℕ → List ℕ → Notes → Verdict

-- the status of a verdict
abbrev pub verdict_status : Verdict → ℕ
verdict_status (Refused status line) = status
verdict_status (Written status text notes) = status

-- what `out` gains by a verdict
abbrev pub out_text : Verdict → List ℕ
out_text (Refused status line) = []
out_text (Written status text notes) = text

-- what `note` may gain by a verdict
abbrev pub MayGain : Verdict → List ℕ → Type 0
MayGain (Refused status line) noted = noted ≡ line
MayGain (Written status text notes) noted = MayNote notes noted

-- what a prefix may be of that `note` gains by a verdict where a job is cut short
abbrev pub MayStart : Verdict → List ℕ → Type 0
MayStart (Refused status line) noted = noted ≡ line
MayStart (Written status text notes) noted = MayBegin notes noted

-- ---- the lines

-- the usage line
abbrev pub usage_text : List ℕ
usage_text = codes "usage: dem MODE [--drift N] [--bin N] [--turns T] [--seed N] [--count N] [--report] [--split]\n"

-- the line of a read that failed
abbrev pub read_failed_text : List ℕ
read_failed_text = codes "read failed\n"

-- the line of an input of a scene and more that is too long
abbrev pub too_long_text : List ℕ
too_long_text = codes "input: longer than 268435456 bytes\n"

-- the line of an input of `check` without a line between its scene and its rows
abbrev pub no_frames_text : List ℕ
no_frames_text = codes "frames: missing\n"

-- a line that ends with a number
unfoldable pub numbered : List ℕ → ℕ → List ℕ
numbered name n = name ++ decimal n ++ codes "\n"

-- the line of a side of bins that is too small
unfoldable pub bin_text : ℕ → List ℕ
bin_text cells = codes "bin: " ++ decimal cells ++ codes " cells, limit 8\n"

-- ---- what the text of a scene comes to

-- the status of a run by how it ends
abbrev pub run_status : Last → ℕ
run_status (Done step) = 0
run_status (Passed e) = 3

-- a run of this scene: its whole output, and how it ends
abbrev pub run_verdict : Notes → SceneValue → Verdict
run_verdict notes s = Written (run_status (last_of s)) (output_of s) notes

-- a scene comes to this; a text that is none is refused with the line of its fault
abbrev pub on_scene : (SceneValue → Verdict) → Result SceneValue SceneFault → Verdict
on_scene f (Ok s) = f s
on_scene f (Err fault) = Refused 2 (fault_text fault)

-- the plain run
unfoldable pub plain_verdict : List ℕ → Verdict
plain_verdict bytes = on_scene (run_verdict no_rows) (scene_from bytes)

-- what is seen of the run of this scene, and how it ends
abbrev pub looks_of : SceneValue → Verdict
looks_of s = Written (run_status (last_of s)) (looked_at s) no_rows

-- what is seen of the plain run
unfoldable pub look_verdict : List ℕ → Verdict
look_verdict bytes = on_scene looks_of (scene_from bytes)

-- a grid of bins is needed whose spheres may meet so many cells on an axis: it is refused above 8
abbrev pub on_grid : ℕ → Verdict → Verdict
on_grid cells verdict = if nat_lt MAX_CELLS cells then Refused 2 (bin_text cells) else verdict

-- these rows are noted where the order asks for them, else none
abbrev pub where_asked : OrderValue → Notes → Notes
where_asked o notes = if o.report then notes else no_rows

-- the run of a scene on lists that may note these rows: its grid, and then the output of the plain run
unfoldable pub lists_of : OrderValue → Notes → SceneValue → Verdict
lists_of o notes s = on_grid (cells_across s (grid_of s o.drift o.bin)) (run_verdict (where_asked o notes) s)

-- the run of a scene on lists by given turns
abbrev pub sched_of : OrderValue → SceneValue → Verdict
sched_of o s = lists_of o (OfTurns s o.drift o.turns) s

-- the run of a scene on lists by two threads
abbrev pub threads_of : OrderValue → SceneValue → Verdict
threads_of o s = lists_of o (OfThreads s o.drift) s

-- the run on lists by given turns
unfoldable pub sched_verdict : OrderValue → List ℕ → Verdict
sched_verdict o bytes = on_scene (sched_of o) (scene_from bytes)

-- the run on lists by two threads
unfoldable pub threads_verdict : OrderValue → List ℕ → Verdict
threads_verdict o bytes = on_scene (threads_of o) (scene_from bytes)
