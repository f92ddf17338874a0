use Rattle.std.proofs.Common.{◌-◌}
use Rattle.dem_look.proofs.LoopFacts.{LooksOn}
use Rattle.dem_look.proofs.looking.look_on.Given as goal

abbrev pub invariant-loop-looker : goal.invariant-loop-looker
invariant-loop-looker g l =
    LooksOn (g.K.Sink.held l.fn.out) (g.K.Sink.held l.out) (g.K.Sink.faults l.fn.out) (g.K.Sink.faults l.out) l.shapes l.run l.looker

abbrev pub decreases-loop-looker : goal.decreases-loop-looker
decreases-loop-looker g l = l.shapes.steps - l.run.state.step
