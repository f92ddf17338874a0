use Rattle.dem_swap.proofs.LawFacts.{kept, always, posted, delivered}
use Rattle.dem_swap.proofs.EventFacts.{moves}
use Rattle.dem_swap.proofs.laws.exchange_law.Goals as goal

pub returns-clause-kept : goal.returns-clause-kept
returns-clause-kept c = kept

pub returns-clause-always : goal.returns-clause-always
returns-clause-always c = always

pub returns-clause-posted : goal.returns-clause-posted
returns-clause-posted c = posted

pub returns-clause-delivered : goal.returns-clause-delivered
returns-clause-delivered c = delivered

pub returns-clause-events : goal.returns-clause-events
returns-clause-events c = moves
