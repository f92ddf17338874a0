use Rattle.dem_core.proofs.SpellFacts.{legal-plays}
use Rattle.dem_core.proofs.law.plays.Goals as goal

pub returns : goal.returns
returns c = legal-plays c.args.shapes.now c.args.drift
