-- The plain run as contracts see it, and what one step makes of it.
use Rattle.std.specs.Prelude.{◌≡◌, Bool, Result, Ok, Err}
use Rattle.dem_model.specs.SceneValue.{SceneValue}
use Rattle.dem_model.specs.Step.{step_of}
use Rattle.dem_model.specs.declared.state.State.{State}
use Rattle.dem_plain.specs.declared.stop.Stop.{Stop}
use Rattle.dem_plain.specs.declared.stop.Stop.TheVariants.{Ended, OutOfMemory}

-- a run: its scene, the state that it has reached, and whether it began at the scene's first state
pub record Run : Type 0 where
  pub scene : SceneValue
  pub state : State
  pub from_first : Bool

-- a step of a run: it is the plain step, or its end, and after a refusal the run is as before
abbrev pub StepsPlain : {A : Type 0} → Run → Run → Result A Stop → Type 0
StepsPlain old new (Ok _) = (step_of old.scene old.state ≡ Ok new.state) × (new.scene ≡ old.scene) × (new.from_first ≡ old.from_first)
StepsPlain old new (Err (Ended e)) = (step_of old.scene old.state ≡ Err e) × (new ≡ old)
StepsPlain old new (Err OutOfMemory) = new ≡ old
