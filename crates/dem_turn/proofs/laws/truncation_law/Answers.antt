use Rattle.dem_turn.proofs.Truncation.{truncation_law, unit_long}
use Rattle.dem_turn.proofs.laws.truncation_law.Goals as goal

pub returns-clause-close : goal.returns-clause-close
returns-clause-close c = truncation_law

pub returns-clause-long : goal.returns-clause-long
returns-clause-long c = unit_long
