use Rattle.dem_core.proofs.SpellFacts.{all-come}
use Rattle.dem_core.proofs.law.comes_by.Goals as goal

pub returns : goal.returns
returns c = all-come c.args.shapes.now c.args.drift
