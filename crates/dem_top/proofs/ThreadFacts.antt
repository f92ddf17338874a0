-- What the run by two threads promises, as a run on lists.
use Rattle.std.proofs.Common.{◌≡◌, ℕ, ◌++◌, Ok, Err, inl, inr, ⊎_elim, refl, subst}
use Rattle.std.specs.Io.KnownBytes.{Appends}
use Rattle.dem_outside.specs.Faults.{Rose}
use Rattle.dem_outside.specs.Known.{AppendsPrefix}
use Rattle.dem_outside.specs.Change.{Stream}
use Rattle.dem_model.specs.SceneValue.{SceneValue}
use Rattle.dem_model.specs.Frames.{tests_text}
use Rattle.dem_model.specs.Output.{output_of}
use Rattle.dem_model.specs.Plain.{last_of}
use Rattle.dem_model.specs.TakenRows.{IsLegal, tests_of}
use Rattle.dem_model.specs.World.{rows_text}
use Rattle.dem_output.specs.declared.running.RunFault.{RunFault}
use Rattle.dem_output.specs.declared.running.RunFault.TheVariants as runs
use Rattle.dem_crew.specs.Running.{HasRun, HasNoted, HasRunFaults}
use Rattle.dem_crew.specs.declared.ran.Ran.{Ran}
use Rattle.dem_jobs.specs.Verdicts.{OfThreads}
use Rattle.dem_jobs.specs.Parts.{HasBegun, RunsThreads, stop_by}
use Rattle.dem_jobs.proofs.AnswerFacts.{between}

module _ (s : SceneValue) (drift : ℕ) (a b from to : Stream) where
  -- the run was made
  pub threads-done : (ran : Ran) → HasRun s drift a.bytes b.bytes from.bytes to.bytes ran → (b.faults ≡ a.faults) × (to.faults ≡ from.faults)
      → RunsThreads s drift (between a b) (between from to) (Ok ran.last)
  threads-done ran run calm = record {
    last_is = run.last;
    written = run.written;
    rows = rows_text run.rows ++ tests_text (tests_of run.rows (last_of s));
    may_be = record { taken_rows = run.rows; legal = subst (λ l. IsLegal s drift l run.rows) run.last run.legal; text = refl };
    noted = subst (λ n. Appends from.bytes to.bytes (rows_text run.rows ++ tests_text n)) (subst (λ l. ran.tests ≡ tests_of run.rows l) run.last run.tests) run.noted;
    calm = calm;
  }

  -- prefixes of what it writes and notes
  begun : AppendsPrefix a.bytes b.bytes (output_of s) → HasNoted s drift from.bytes to.bytes → HasBegun s (OfThreads s drift) (between a b) (between from to)
  begun written noted = record {
    written = written;
    rows = rows_text noted.rows ++ tests_text (tests_of noted.rows (last_of s));
    may_be = inr (record { taken_rows = noted.rows; legal = noted.legal; text = refl });
    noted = noted.noted;
  }

  -- it stopped
  pub threads-stopped : (fault : RunFault) → AppendsPrefix a.bytes b.bytes (output_of s) → HasNoted s drift from.bytes to.bytes
      → HasRunFaults {A = Ran} a.faults b.faults from.faults to.faults (Err fault) → RunsThreads s drift (between a b) (between from to) (Err (stop_by fault))
  threads-stopped runs.WriteFault written noted faults = (
    begun written noted,
    ⊎_elim (λ (f : Rose a.faults b.faults × (to.faults ≡ from.faults)). inl f.0) (λ (f : Rose from.faults to.faults × (b.faults ≡ a.faults)). inr f.0) faults,
  )
  threads-stopped runs.OutOfMemory written noted faults = (begun written noted, faults.0, faults.1)
