use Rattle.dem_turn.proofs.ExactTurn.{exact_turn_law, exact_turn_le}
use Rattle.dem_turn.proofs.laws.exact_turn_law.Goals as goal

pub returns-clause-moved : goal.returns-clause-moved
returns-clause-moved c = exact_turn_law

pub returns-clause-at_most : goal.returns-clause-at_most
returns-clause-at_most c = exact_turn_le
