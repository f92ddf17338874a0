use Rattle.std.proofs.Common.{◌≡◌, drop}
use Rattle.dem_model.specs.Frames.{clumps_text}
use Rattle.dem_outside.proofs.Written.{Written}
use Rattle.dem_core.proofs.frame.write_bodies.Given as goal

abbrev pub invariant-loop-k : goal.invariant-loop-k
invariant-loop-k g l =
    Written (g.K.Sink.held l.initial.out) (g.K.Sink.held l.out) (clumps_text l.k (drop l.k l.run.state.bodies)) (clumps_text 0 l.run.state.bodies)
    × (g.K.Sink.faults l.out ≡ g.K.Sink.faults l.initial.out)
