use Rattle.dem_pack.proofs.FindFacts.{half-square, rise-few, rise-is, rise-some}
use Rattle.dem_pack.proofs.rise.rise.Goals as goal

pub overflow_sub-pitch : goal.overflow_sub-pitch
overflow_sub-pitch c = half-square c.args.pitch

pub returns-clause-value : goal.returns-clause-value
returns-clause-value c = rise-is c.args.pitch c.least_root.result c.least_root.ensures.enough c.least_root.ensures.least

pub returns-clause-some : goal.returns-clause-some
returns-clause-some c = rise-some c.args.pitch c.least_root.result c.requires.some c.least_root.ensures.enough

pub returns-clause-few : goal.returns-clause-few
returns-clause-few c = rise-few c.args.pitch c.least_root.result c.least_root.ensures.least
