-- What a call over std's streams promises by its status: what each writer gained, by std's own words.
use Rattle.std.specs.Prelude.{◌≡◌, ℕ, ◌≤◌, List, Option, ◌⊎◌}
use Rattle.std.specs.Io.KnownBytes.{append_known}
use Rattle.dem_outside.specs.Change.{Change, IsKept, Gains, GainsPrefix}
use Rattle.dem_jobs.specs.Verdicts.{read_failed_text}
use Rattle.dem_jobs.specs.Jobs.{Job, ForTold}
use Rattle.dem_jobs.specs.Answers.{Fulfils, Begins, IsVerdict, IsCutShort}

-- a writer before and after, by the bytes that it holds where they are known; it counts nothing
abbrev pub passed : Option (List ℕ) → Option (List ℕ) → Change
passed old new = record { before = record { bytes = old; faults = 0 }; after = record { bytes = new; faults = 0 } }

-- the writer of the output, and behind what it holds a rest that didn't reach it
abbrev pub with_rest : List ℕ → Change → Change
with_rest rest out = record out { after = record { bytes = append_known out.after.bytes rest; faults = out.after.faults } }

-- what a call over streams promises
pub record Serves (job : Job) (left : Option (List ℕ)) (out note : Change) (status : ℕ) : Type 0 where
  -- a status that the input comes to: its whole text reached the writer, and its line or its rows the other
  pub fulfilled : IsVerdict status → ForTold left (λ bytes. Fulfils (job.verdict bytes) out note status)
  -- a read failed: its line and nothing else
  pub read_failed : status ≡ 4 → IsKept out × Gains note read_failed_text
  -- a write or a flush failed, or there was no memory: prefixes, of which some rest may not have reached the writer
  pub cut_short : IsCutShort status → (rest : List ℕ)
      × (ForTold left (λ bytes. Begins (job.verdict bytes) (with_rest rest out) note) ⊎ (IsKept (with_rest rest out) × GainsPrefix note read_failed_text))
  pub known : status ≤ 7
