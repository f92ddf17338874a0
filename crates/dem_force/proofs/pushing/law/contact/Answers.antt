use Rattle.dem_force.proofs.RangeFacts.{IsSecond_bounded}
use Rattle.dem_force.proofs.pushing.law.contact.Goals as goal

pub pushed-requires-clause-second : goal.pushed-requires-clause-second
pushed-requires-clause-second c = IsSecond_bounded c.args.b.now c.requires.second
