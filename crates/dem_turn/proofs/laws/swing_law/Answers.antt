use Rattle.dem_turn.proofs.StepSwing.{step_swings, step_some}
use Rattle.dem_turn.proofs.laws.swing_law.Goals as goal

pub returns-clause-within : goal.returns-clause-within
returns-clause-within c = step_swings

pub returns-clause-some : goal.returns-clause-some
returns-clause-some c = step_some
