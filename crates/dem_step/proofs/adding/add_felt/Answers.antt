use Rattle.std.proofs.Common.{arith}
use Rattle.dem_step.proofs.FeltFacts.{added-last}
use Rattle.dem_step.proofs.adding.add_felt.Goals as goal

pub returns : goal.returns
returns c = record {
  added = added-last c.args.loads.now c.args.others.now c.loop-c.loads c.args.felt.now c.loop-c.c c.requires.felt
      (λ k le lt. omega (arith, le, lt, c.loop-c-test.false, c.min-past.ensures)) c.loop-c.invariant;
}
