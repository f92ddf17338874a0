-- What a call promises by its status.
use Rattle.std.specs.Prelude.{◌≡◌, ℕ, ◌≤◌, ◌==◌, ◌||◌, List, ◌⊎◌, IsTrue}
use Rattle.dem_outside.specs.Change.{Change, IsKept, IsCalm, Fails, Gains, GainsPrefix}
use Rattle.dem_jobs.specs.Verdicts.{Verdict, verdict_status, out_text, MayGain, MayStart, read_failed_text}
use Rattle.dem_jobs.specs.Jobs.{Job, Takes, ReadsWhole, ForLeft, ForAnyLeft}

-- an input comes to this status; all of its text was written and nothing else, and what may be noted was noted
pub record Fulfils (verdict : Verdict) (out note : Change) (status : ℕ) : Type 0 where
  pub status_is : status ≡ verdict_status verdict
  pub written : Gains out (out_text verdict)
  pub rows : List ℕ
  pub may_be : MayGain verdict rows
  pub noted : Gains note rows

-- a prefix was written of what an input comes to, and a prefix noted of what may be noted
pub record Begins (verdict : Verdict) (out note : Change) : Type 0 where
  pub written : GainsPrefix out (out_text verdict)
  pub rows : List ℕ
  pub may_be : MayStart verdict rows
  pub noted : GainsPrefix note rows

-- a read failed: nothing was written, and a prefix noted of its line
pub record FailsToRead (source out note : Change) : Type 0 where
  pub failed : Fails source
  pub unwritten : IsKept out
  pub noted : GainsPrefix note read_failed_text

-- the status of a job that was done: 0, 3 or 7
abbrev pub IsDone : ℕ → Type 0
IsDone status = IsTrue ((status == 0) || ((status == 3) || (status == 7)))

-- a status that an input comes to: that of a job that was done, or of words or an input that are refused
abbrev pub IsVerdict : ℕ → Type 0
IsVerdict status = IsTrue ((status == 0) || ((status == 3) || ((status == 7) || ((status == 1) || (status == 2)))))

-- the status of a call that was cut short: a put failed, or there was no memory
abbrev pub IsCutShort : ℕ → Type 0
IsCutShort status = IsTrue ((status == 5) || (status == 6))

-- the status of words, an input or a source that is refused
abbrev pub IsUnwritten : ℕ → Type 0
IsUnwritten status = IsTrue ((status == 1) || ((status == 2) || (status == 4)))

-- what a call promises
pub record Answers (job : Job) (source out note : Change) (status : ℕ) : Type 0 where
  -- a status that an input comes to is that of this input, with its whole text and its notes
  pub fulfilled : IsVerdict status → ForLeft source (λ bytes. Fulfils (job.verdict bytes) out note status)
  pub read_whole : IsDone status → ReadsWhole job.limit source
  -- a read failed: exactly its line
  pub read_failed : status ≡ 4 → Fails source × Gains note read_failed_text
  pub nothing_written : IsUnwritten status → IsKept out
  -- a put failed, or there was no memory: prefixes of what the input comes to
  pub put_failed : status ≡ 5 → Fails out ⊎ Fails note
  pub cut_short : IsCutShort status → ForLeft source (λ bytes. Begins (job.verdict bytes) out note) ⊎ FailsToRead source out note
  -- a put that failed is answered by 5; a read that failed by 4, or by 5 where the put of its line failed
  pub calm_sinks : (status ≡ 5) ⊎ (IsCalm out × IsCalm note)
  pub calm_source : IsCalm source ⊎ (IsKept out × ((status ≡ 4) ⊎ (status ≡ 5)))
  -- at every status the source lost no more than the longest input and one byte
  pub taken : Takes job.limit source
  -- where no read failed the answer is what the input comes to, unless a put failed or there was no memory
  pub complete : (answer : ℕ) → ForAnyLeft source (λ bytes. verdict_status (job.verdict bytes) ≡ answer) → ¬ Fails source
      → (status ≡ answer) ⊎ (((status ≡ 5) × (Fails out ⊎ Fails note)) ⊎ (status ≡ 6))
  pub known : status ≤ 7
