use Rattle.std.proofs.Common.{◌≡◌, length}
use Rattle.dem_outside.proofs.Written.{Written}
use Rattle.dem_outside.proofs.real_sink.RealSinkSink.put.Given as goal

abbrev pub invariant-loop-rest : goal.invariant-loop-rest
invariant-loop-rest g l = Written (g.W.Write.contents l.initial.self.writer) (g.W.Write.contents l.self.writer) l.rest l.piece × (l.self.faults ≡ l.initial.self.faults)

abbrev pub decreases-loop-rest : goal.decreases-loop-rest
decreases-loop-rest g l = length l.rest
