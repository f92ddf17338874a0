use Rattle.dem_turn.proofs.TurnLaws.{length_law}
use Rattle.dem_turn.proofs.laws.length_law.Goals as goal

pub returns : goal.returns
returns c = length_law
