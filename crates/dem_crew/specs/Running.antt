-- What a run on lists by one thread or two comes to.
use Rattle.std.specs.Prelude.{ℕ, ◌≡◌, ◌+◌, ◌≤◌, ◌⊎◌, ◌++◌, List, length, Option, Result, Ok, Err, IfOk, OnErr}
use Rattle.std.specs.Io.KnownBytes.{Appends}
use Rattle.dem_model.specs.SceneValue.{SceneValue}
use Rattle.dem_model.specs.Frames.{tests_text}
use Rattle.dem_model.specs.Output.{output_of}
use Rattle.dem_model.specs.Plain.{last_of}
use Rattle.dem_model.specs.TakenRows.{IsLegal, tests_of}
use Rattle.dem_model.specs.World.{rows_text}
use Rattle.dem_model.specs.declared.state.TakenRow.{TakenRow}
use Rattle.dem_outside.specs.Faults.{Rose}
use Rattle.dem_outside.specs.Known.{AppendsPrefix}
use Rattle.dem_output.specs.declared.running.RunFault.{RunFault}
use Rattle.dem_output.specs.declared.running.RunFault.TheVariants.{WriteFault, OutOfMemory}
use Rattle.dem_core.specs.Playing.{Plays}
use Rattle.dem_crew.specs.declared.ran.Ran.{Ran}

-- a run was made: the output gained that of the plain run, and the notes the rows of its lists, which are rows that a run may have, and a row of its
-- tests; the answer tells how the plain run ends, how many rows there are, and the tests that they stand for; the world of turns comes to the same along them
pub record HasRun (s : SceneValue) (drift : ℕ) (out out_now note note_now : Option (List ℕ)) (ran : Ran) : Type 0 where
  pub rows : List TakenRow
  pub legal : IsLegal s drift ran.last rows
  pub played : Plays s drift rows ran.last
  pub last : ran.last ≡ last_of s
  pub lists : ran.lists ≡ length rows
  pub tests : ran.tests ≡ tests_of rows ran.last
  pub written : Appends out out_now (output_of s)
  pub noted : Appends note note_now (rows_text rows ++ tests_text ran.tests)

-- a run was refused: the notes gained a prefix of rows that it may have and of the row of their tests
pub record HasNoted (s : SceneValue) (drift : ℕ) (note note_now : Option (List ℕ)) : Type 0 where
  pub rows : List TakenRow
  pub legal : IsLegal s drift (last_of s) rows
  pub noted : AppendsPrefix note note_now (rows_text rows ++ tests_text (tests_of rows (last_of s)))

-- the count of one of the sinks rose where a put failed; else neither changed
abbrev pub HasRunFaults : {A : Type 0} → (out out_now note note_now : ℕ) → Result A RunFault → Type 0
HasRunFaults out out_now note note_now (Ok _) = (out_now ≡ out) × (note_now ≡ note)
HasRunFaults out out_now note note_now (Err WriteFault) = (Rose out out_now × (note_now ≡ note)) ⊎ (Rose note note_now × (out_now ≡ out))
HasRunFaults out out_now note note_now (Err OutOfMemory) = (out_now ≡ out) × (note_now ≡ note)

-- the two threads were started: the run was made; or prefixes of its output and of rows that it may have were written and a put failed, or memory was refused. No more tests were counted than it had
pub record Started (s : SceneValue) (drift : ℕ) (out out_now note note_now : Option (List ℕ)) (out_faults out_faults_now note_faults note_faults_now tests tests_now : ℕ) (answer : Result Ran RunFault) : Type 0 where
  pub ran : IfOk answer (HasRun s drift out out_now note note_now)
  pub so_far : OnErr answer (AppendsPrefix out out_now (output_of s))
  pub noted : OnErr answer (HasNoted s drift note note_now)
  pub faults : HasRunFaults out_faults out_faults_now note_faults note_faults_now answer
  pub counted : IfOk answer (λ (ran : Ran). tests_now ≤ tests + ran.tests)
