-- A fault goes through the steps of a reading.
use Rattle.std.proofs.Common.{◌≡◌, Result, Ok, Err, ap, sym}
use Rattle.dem_model.specs.declared.fault.SceneFault.{SceneFault}
use Rattle.dem_model.specs.declared.fault.SceneFault.TheVariants.{OutOfMemory}
use Rattle.dem_model.specs.Reading.{◌>>=◌}
use Rattle.dem_scene.specs.Gives.{Fails, Gives}

-- the steps after a fault aren't made
pub err_then : {A B : Type 0} (fault : SceneFault) (read : Result A SceneFault) (next : A → Result B SceneFault) → read ≡ Err fault → (read >>= next) ≡ Err fault
err_then fault read next e = ap (λ r. r >>= next) e

-- a fault of a step is the fault of the whole
pub fails_then : {A B : Type 0} (fault : SceneFault) (read : Result A SceneFault) (next : A → Result B SceneFault) → Fails fault read → Fails fault (read >>= next)
fails_then OutOfMemory read next h = tt
fails_then _ read next h = ap (λ r. r >>= next) h

-- a fault of the definition is a fault
pub fails_from : {A : Type 0} (fault : SceneFault) (read : Result A SceneFault) → read ≡ Err fault → Fails fault read
fails_from OutOfMemory read h = tt
fails_from _ read h = h

-- an answer that is the definition's gives it
pub gives_from : {A : Type 0} (answer : Result A SceneFault) (read : Result A SceneFault) → answer ≡ read → Gives answer read
gives_from (Ok x) read h = sym h
gives_from (Err fault) read h = fails_from fault read (sym h)
