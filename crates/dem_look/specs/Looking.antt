-- What the parts of a run that is looked at write.
use Rattle.std.specs.Prelude.{ℕ, ◌≡◌, List, [], Option, None, Some, Result, Ok, Err, if◌then◌else◌}
use Rattle.std.specs.Io.KnownBytes.{Appends, Keeps}
use Rattle.dem_outside.specs.Faults.{Rose}
use Rattle.dem_outside.specs.Known.{AppendsPrefix}
use Rattle.dem_model.specs.SceneValue.{SceneValue}
use Rattle.dem_model.specs.Look.{look_of, look_text, looked_at}
use Rattle.dem_model.specs.Output.{is_due}
use Rattle.dem_model.specs.Plain.{last_of}
use Rattle.dem_model.specs.Step.{step_of}
use Rattle.dem_model.specs.declared.state.End.{End}
use Rattle.dem_model.specs.declared.state.Last.{Last}
use Rattle.dem_model.specs.declared.state.State.{State}
use Rattle.dem_plain.specs.Run.{Run}
use Rattle.dem_output.specs.Running.{WritesText}
use Rattle.dem_output.specs.declared.running.RunFault.{RunFault}
use Rattle.dem_output.specs.declared.running.RunFault.TheVariants as run_faults
use Rattle.dem_look.specs.Looker.{LookerValue, Shows}
use Rattle.dem_look.specs.declared.looking.LookFault.{LookFault}
use Rattle.dem_look.specs.declared.looking.LookFault.TheVariants.{WriteFault, OutOfMemory}

-- the row of a state, where its frame is due
unfoldable pub due_look : SceneValue → Option State → State → List ℕ
due_look s before st = if is_due s st.step then look_text (look_of s before st) else []

-- the state that was shown last, once a state was shown that is due
unfoldable pub shown_after : SceneValue → Option State → State → Option State
shown_after s before st = if is_due s st.step then Some st else before

-- a step of a run that is looked at, and the row of the new state, where it is due; or the end, or a fault
abbrev pub MakesLook : SceneValue → Run → Run → LookerValue → LookerValue → (held now : Option (List ℕ)) → (faults faults_now : ℕ) → Result (Option End) LookFault → Type 0
MakesLook s old new looker looker_now held now faults faults_now (Ok None) =
    (step_of s old.state ≡ Ok new.state) × (new.scene ≡ old.scene) × (new.from_first ≡ old.from_first) × (faults_now ≡ faults)
    × ((before : Option State) → Shows s looker before → Shows s looker_now (shown_after s before new.state))
    × ((before : Option State) → Shows s looker before → Appends held now (due_look s before new.state))
MakesLook s old new looker looker_now held now faults faults_now (Ok (Some e)) = (step_of s old.state ≡ Err e) × Keeps held now × (faults_now ≡ faults)
MakesLook s old new looker looker_now held now faults faults_now (Err WriteFault) =
    (step_of s old.state ≡ Ok new.state) × ((before : Option State) → Shows s looker before → AppendsPrefix held now (due_look s before new.state)) × Rose faults faults_now
MakesLook s old new looker looker_now held now faults faults_now (Err OutOfMemory) = Keeps held now × (faults_now ≡ faults)

-- a fault of a look, as one of a run
abbrev pub run_fault : LookFault → RunFault
run_fault WriteFault = run_faults.WriteFault
run_fault OutOfMemory = run_faults.OutOfMemory

-- a whole run that is looked at: its rows
abbrev pub WritesLook : SceneValue → (held now : Option (List ℕ)) → (faults faults_now : ℕ) → Result Last LookFault → Type 0
WritesLook s held now faults faults_now (Ok last) = WritesText (looked_at s) (last_of s) held now faults faults_now (Ok last)
WritesLook s held now faults faults_now (Err fault) = WritesText (looked_at s) (last_of s) held now faults faults_now (Err (run_fault fault))
