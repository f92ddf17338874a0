-- What the answer of a reading tells of its definition.
use Rattle.std.specs.Prelude.{◌≡◌, Result, Ok, Err}
use Rattle.dem_model.specs.declared.fault.SceneFault.{SceneFault}
use Rattle.dem_model.specs.declared.fault.SceneFault.TheVariants.{OutOfMemory}

-- a fault is that of the definition; OutOfMemory tells nothing
abbrev pub Fails : {A : Type 0} → SceneFault → Result A SceneFault → Type 0
Fails OutOfMemory read = Unit {0}
Fails fault read = read ≡ Err fault

-- the answer is that of the definition, unless there was no memory
abbrev pub Gives : {A : Type 0} → Result A SceneFault → Result A SceneFault → Type 0
Gives (Ok x) read = read ≡ Ok x
Gives (Err fault) read = Fails fault read
