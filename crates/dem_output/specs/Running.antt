-- What the parts of a run write, and how what follows a state belongs to the whole.
use Rattle.std.specs.Prelude.{◌≡◌, ℕ, ◌≤◌, true, List, ◌++◌, Option, Result, Ok, Err, None, Some}
use Rattle.std.specs.Io.KnownBytes.{Appends, Keeps}
use Rattle.dem_outside.specs.Faults.{Rose}
use Rattle.dem_outside.specs.Known.{AppendsPrefix}
use Rattle.dem_model.specs.SceneValue.{SceneValue}
use Rattle.dem_model.specs.Step.{step_of}
use Rattle.dem_model.specs.Plain.{last_after, last_of, plain_at}
use Rattle.dem_model.specs.Frames.{state_text}
use Rattle.dem_model.specs.Output.{due_text, is_due, output_of, rest_of}
use Rattle.dem_model.specs.declared.state.State.{State}
use Rattle.dem_model.specs.declared.state.End.{End}
use Rattle.dem_model.specs.declared.state.Last.{Last}
use Rattle.dem_plain.specs.Run.{Run}
use Rattle.dem_output.specs.declared.running.RunFault.{RunFault}
use Rattle.dem_output.specs.declared.running.RunFault.TheVariants.{WriteFault, OutOfMemory}

-- a step of a run and the frame of the new state, where it is due; or the end, or a fault
abbrev pub MakesStep : Run → Run → (held now : Option (List ℕ)) → (faults faults_now : ℕ) → Result (Option End) RunFault → Type 0
MakesStep old new held now faults faults_now (Ok None) =
    (step_of old.scene old.state ≡ Ok new.state) × (new.scene ≡ old.scene) × Appends held now (due_text old.scene new.state) × (faults_now ≡ faults)
MakesStep old new held now faults faults_now (Ok (Some e)) = (step_of old.scene old.state ≡ Err e) × Keeps held now × (faults_now ≡ faults)
MakesStep old new held now faults faults_now (Err WriteFault) =
    (step_of old.scene old.state ≡ Ok new.state) × AppendsPrefix held now (due_text old.scene new.state) × Rose faults faults_now
MakesStep old new held now faults faults_now (Err OutOfMemory) = Keeps held now × (faults_now ≡ faults)

-- a text was written whole, and this is how the run ended; or a prefix of the text, and why
abbrev pub WritesText : List ℕ → Last → (held now : Option (List ℕ)) → (faults faults_now : ℕ) → Result Last RunFault → Type 0
WritesText text last held now faults faults_now (Ok answer) = (answer ≡ last) × Appends held now text × (faults_now ≡ faults)
WritesText text last held now faults faults_now (Err WriteFault) = AppendsPrefix held now text × Rose faults faults_now
WritesText text last held now faults faults_now (Err OutOfMemory) = AppendsPrefix held now text × (faults_now ≡ faults)

-- a whole run: its output
abbrev pub WritesRun : SceneValue → (held now : Option (List ℕ)) → (faults faults_now : ℕ) → Result Last RunFault → Type 0
WritesRun s = WritesText (output_of s) (last_of s)

-- a run from a state: what follows the frame of that state
abbrev pub WritesRest : SceneValue → State → (held now : Option (List ℕ)) → (faults faults_now : ℕ) → Result Last RunFault → Type 0
WritesRest s st = WritesText (rest_of s st) (last_after s st)

-- from each state of the plain run the run ends as the plain run does
abbrev pub EndsAlike : SceneValue → Type 0
EndsAlike s = (n : ℕ) (st : State) → plain_at s n ≡ Some st → n ≤ s.steps → last_after s st ≡ last_of s

-- behind each frame of the output comes what the run from the state of that frame writes
abbrev pub GoesOnAlike : SceneValue → Type 0
GoesOnAlike s = (n : ℕ) (st : State) → plain_at s n ≡ Some st → n ≤ s.steps → is_due s n ≡ true → (text : List ℕ) × (output_of s ≡ text ++ (state_text st ++ rest_of s st))
