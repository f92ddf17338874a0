use Rattle.dem_turn.proofs.TurnLaws.{turn_law, swing_parts, cross_le}
use Rattle.dem_turn.proofs.laws.turn_law.Goals as goal

pub returns-clause-parts : goal.returns-clause-parts
returns-clause-parts c = swing_parts

pub returns-clause-length : goal.returns-clause-length
returns-clause-length c = turn_law

pub returns-clause-at_most : goal.returns-clause-at_most
returns-clause-at_most c = cross_le
