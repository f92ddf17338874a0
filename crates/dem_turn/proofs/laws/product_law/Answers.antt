use Rattle.dem_turn.proofs.TurnLaws.{product_law, stepped_norm2}
use Rattle.dem_turn.proofs.laws.product_law.Goals as goal

pub returns-clause-turned : goal.returns-clause-turned
returns-clause-turned c = product_law

pub returns-clause-length : goal.returns-clause-length
returns-clause-length c = stepped_norm2
