use Rattle.dem_plain.proofs.RunFacts.{AreAdvanced}
use Rattle.dem_plain.proofs.advancing.advanced.Given as goal

abbrev pub invariant-loop-k : goal.invariant-loop-k
invariant-loop-k l = AreAdvanced l.shapes l.step l.bodies l.loads l.k l.next
