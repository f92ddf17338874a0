use Rattle.std.proofs.Common.{sym}
use Rattle.dem_num.specs.Vectors.{widened}
use Rattle.dem_force.proofs.NothingFacts.{trial_zero}
use Rattle.dem_force.proofs.pushing.sliding.trial.Goals as goal

pub returns-then-are_zero-clause-value : goal.returns-then-are_zero-clause-value
returns-then-are_zero-clause-value c =
    sym (trial_zero c.args.law.now c.args.c c.args.mass c.args.h (widened c.args.slip) (c.are_zero.ensures.displacement c.if-are_zero.true) (c.are_zero.ensures.slip c.if-are_zero.true))
