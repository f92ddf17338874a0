use Rattle.std.proofs.Common.{◌-◌}
use Rattle.dem_output.proofs.LoopFacts.{RunsOn}
use Rattle.dem_output.proofs.running.write_on.Given as goal

abbrev pub invariant-loop-scene : goal.invariant-loop-scene
invariant-loop-scene g l =
    RunsOn (g.K.Sink.held l.fn.out) (g.K.Sink.held l.out) (g.K.Sink.faults l.fn.out) (g.K.Sink.faults l.out) l.scene l.fn.run.state l.run

abbrev pub decreases-loop-scene : goal.decreases-loop-scene
decreases-loop-scene g l = l.scene.steps - l.run.state.step
