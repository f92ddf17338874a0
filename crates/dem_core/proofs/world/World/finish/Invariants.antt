use Rattle.std.proofs.Common.{◌≡◌}
use Rattle.dem_core.proofs.FinishFacts.{Under, rank}
use Rattle.dem_core.proofs.world.World.finish.Given as goal

abbrev pub invariant-loop-last : goal.invariant-loop-last
invariant-loop-last g l =
    Under l.initial.self l.self (g.K.Sink.held l.initial.out) (g.K.Sink.held l.out) (g.N.Sink.held l.initial.note) (g.N.Sink.held l.note) l.initial.tests l.tests
    × (g.K.Sink.faults l.out ≡ g.K.Sink.faults l.initial.out)
    × (g.N.Sink.faults l.note ≡ g.N.Sink.faults l.initial.note)

abbrev pub decreases-loop-last : goal.decreases-loop-last
decreases-loop-last g l = rank l.self.scene l.self.drift l.self.world
