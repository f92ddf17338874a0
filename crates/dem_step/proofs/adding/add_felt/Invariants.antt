use Rattle.dem_step.specs.Split.{AreAdded}
use Rattle.dem_step.proofs.adding.add_felt.Given as goal

abbrev pub invariant-loop-c : goal.invariant-loop-c
invariant-loop-c l = AreAdded l.fn.loads l.others l.loads l.c
