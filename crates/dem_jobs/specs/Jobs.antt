-- A job, and what is true of the bytes that it was given.
use Rattle.std.specs.Prelude.{ℕ, ◌+◌, List, Option, None, Some, ⊤}
use Rattle.std.specs.Io.KnownBytes.{IsAtEnd}
use Rattle.dem_words.specs.Orders.{OrderValue}
use Rattle.dem_words.specs.declared.order.Mode.{Mode}
use Rattle.dem_words.specs.declared.order.Mode.TheVariants as modes
use Rattle.dem_model.specs.declared.limits.TheConstants.{MAX_TEXT}
use Rattle.dem_outside.specs.Change.{Change, IsKept, LosesAtMost}
use Rattle.dem_jobs.specs.declared.reading.TheConstants.{MAX_INPUT}
use Rattle.dem_jobs.specs.Marks.{Meaning, parted}
use Rattle.dem_jobs.specs.Compared.{check_verdict}
use Rattle.dem_jobs.specs.Packed.{pack_verdict}
use Rattle.dem_jobs.specs.Resumed.{resume_verdict}
use Rattle.dem_jobs.specs.Summaries.{gen_verdict}
use Rattle.dem_jobs.specs.Verdicts.{Verdict, Refused, usage_text, plain_verdict, sched_verdict, threads_verdict, look_verdict}

-- what is asked for
pub record Job : Type 0 where
  -- the longest input that it takes, in bytes, where it reads one at all
  pub limit : Option ℕ
  -- what each input comes to
  pub verdict : List ℕ → Verdict

-- the run of a scene
abbrev pub plain_job : Job
plain_job = record { limit = Some MAX_TEXT; verdict = plain_verdict }

-- the run of a scene on lists by given turns
abbrev pub sched_job : OrderValue → Job
sched_job o = record { limit = Some MAX_TEXT; verdict = sched_verdict o }

-- the run of a scene on lists by two threads
abbrev pub run_job : OrderValue → Job
run_job o = record { limit = Some MAX_TEXT; verdict = threads_verdict o }

-- what is seen of the run of a scene
abbrev pub look_job : Job
look_job = record { limit = Some MAX_TEXT; verdict = look_verdict }

-- a scene and more, parted by this mark
abbrev pub parted_job : (mark missing : List ℕ) → Meaning → Job
parted_job mark missing f = record { limit = Some MAX_INPUT; verdict = parted mark missing f }

-- rows compared with the output of a scene
abbrev pub check_job : Job
check_job = record { limit = Some MAX_INPUT; verdict = check_verdict }

-- a summary of the run of a made scene: nothing is read
abbrev pub gen_job : OrderValue → Job
gen_job o = record { limit = None; verdict = λ _. gen_verdict o }

-- a scene with other clumps, as a row asks for
abbrev pub pack_job : OrderValue → Job
pack_job o = record { limit = Some MAX_INPUT; verdict = pack_verdict o.count }

-- the run of a scene from a frame on
abbrev pub resume_job : Job
resume_job = record { limit = Some MAX_INPUT; verdict = resume_verdict }

-- a faulty command line: nothing is read
abbrev pub usage_job : Job
usage_job = record { limit = None; verdict = λ _. Refused 1 usage_text }

-- what an order of this mode asks for
abbrev pub job_in : Mode → OrderValue → Job
job_in modes.Plain o = plain_job
job_in modes.Sched o = sched_job o
job_in modes.Run o = run_job o
job_in modes.Check o = check_job
job_in modes.Gen o = gen_job o
job_in modes.Resume o = resume_job
job_in modes.Look o = look_job
job_in modes.Pack o = pack_job o

-- what an order asks for
abbrev pub job_of : OrderValue → Job
job_of o = job_in o.mode o

-- what words ask for that mean this: words that mean no order are a faulty command line
abbrev pub job_meant : Option OrderValue → Job
job_meant None = usage_job
job_meant (Some o) = job_of o

-- ---- what a job takes from the source

-- at most one byte past its longest input, from the beginning of what was left
abbrev pub Takes : Option ℕ → Change → Type 0
Takes None source = IsKept source
Takes (Some limit) source = LosesAtMost (limit + 1) source

-- nothing is left, where it reads an input
abbrev pub ReadsWhole : Option ℕ → Change → Type 0
ReadsWhole None source = ⊤
ReadsWhole (Some limit) source = IsAtEnd source.after.bytes

-- ---- what is true of an input

-- this holds of told bytes, or of some bytes where they aren't told
abbrev pub ForTold : Option (List ℕ) → (List ℕ → Type 0) → Type 0
ForTold (Some bytes) P = P bytes
ForTold None P = (bytes : List ℕ) × P bytes

-- this holds of the bytes that were left, or of some bytes where the source doesn't tell them
abbrev pub ForLeft : Change → (List ℕ → Type 0) → Type 0
ForLeft source P = ForTold source.before.bytes P

-- this holds of told bytes, or of all bytes where they aren't told
abbrev pub ForAllTold : Option (List ℕ) → (List ℕ → Type 0) → Type 0
ForAllTold (Some bytes) P = P bytes
ForAllTold None P = (bytes : List ℕ) → P bytes

-- this holds of whatever bytes may have been left
abbrev pub ForAnyLeft : Change → (List ℕ → Type 0) → Type 0
ForAnyLeft source P = ForAllTold source.before.bytes P
