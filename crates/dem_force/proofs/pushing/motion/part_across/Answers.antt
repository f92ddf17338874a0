use Rattle.std.proofs.Common.{◌∙◌, sym}
use Rattle.dem_num.specs.Vectors.{widened}
use Rattle.dem_force.proofs.NothingFacts.{across_zero}
use Rattle.dem_force.proofs.pushing.motion.part_across.Goals as goal

pub returns-then-is_zero-clause-value : goal.returns-then-is_zero-clause-value
returns-then-is_zero-clause-value c = sym (across_zero c.args.n (widened c.args.u) (sym c.is_zero.ensures ∙ c.if-is_zero.true))
