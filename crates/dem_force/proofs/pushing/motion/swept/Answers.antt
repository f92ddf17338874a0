use Rattle.std.proofs.Common.{◌∙◌, sym}
use Rattle.dem_num.specs.Vectors.{widened}
use Rattle.dem_force.proofs.NothingFacts.{swept_zero}
use Rattle.dem_force.proofs.pushing.motion.swept.Goals as goal

pub returns-then-is_zero-clause-value : goal.returns-then-is_zero-clause-value
returns-then-is_zero-clause-value c = sym (swept_zero (widened c.args.spin) (widened c.args.branch) (sym c.is_zero.ensures ∙ c.if-is_zero.true))
