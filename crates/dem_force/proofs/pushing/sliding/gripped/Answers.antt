use Rattle.std.proofs.Common.{sym, arith}
use Rattle.dem_num.specs.Vectors.{widened}
use Rattle.dem_force.proofs.SlideFacts.{passed_below}
use Rattle.dem_force.proofs.pushing.sliding.gripped.Goals as goal

pub overflow_cast-bound : goal.overflow_cast-bound
overflow_cast-bound c = omega (arith, passed_below (widened c.args.trial) c.args.bound c.requires.trial_small (sym c.if-sticks.ensures))
