-- What the rest of a run writes.
use Rattle.std.specs.Prelude.{ℕ, List, Option, Result, Ok, Err}
use Rattle.dem_model.specs.SceneValue.{SceneValue}
use Rattle.dem_model.specs.declared.state.State.{State}
use Rattle.dem_model.specs.declared.state.Last.{Last}
use Rattle.dem_output.specs.Running as runs
use Rattle.dem_output.specs.declared.running.RunFault.{RunFault}
use Rattle.dem_output.specs.declared.running.RunFault.TheVariants as run_faults
use Rattle.dem_save.specs.declared.fault.RestFault.{RestFault}
use Rattle.dem_save.specs.declared.fault.RestFault.TheVariants.{WriteFault, OutOfMemory}

-- a fault of the rest of a run, as one of a run
abbrev pub run_fault : RestFault → RunFault
run_fault WriteFault = run_faults.WriteFault
run_fault OutOfMemory = run_faults.OutOfMemory

-- the rest of a run is written as a run from its state is
abbrev pub WritesRest : SceneValue → State → (held now : Option (List ℕ)) → (faults faults_now : ℕ) → Result Last RestFault → Type 0
WritesRest s st held now faults faults_now (Ok last) = runs.WritesRest s st held now faults faults_now (Ok last)
WritesRest s st held now faults faults_now (Err fault) = runs.WritesRest s st held now faults faults_now (Err (run_fault fault))
