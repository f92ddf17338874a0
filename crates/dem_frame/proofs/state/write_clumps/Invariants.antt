use Rattle.std.proofs.Common.{◌≡◌, drop}
use Rattle.dem_outside.proofs.Written.{Written}
use Rattle.dem_model.specs.Frames.{clumps_text}
use Rattle.dem_frame.proofs.state.write_clumps.Given as goal

abbrev pub invariant-loop-b : goal.invariant-loop-b
invariant-loop-b g l =
    (l.i ≡ l.b-index)
    × Written (g.K.Sink.held l.initial.out) (g.K.Sink.held l.out) (clumps_text l.b-index (drop l.b-index l.bodies)) (clumps_text 0 l.bodies)
    × (g.K.Sink.faults l.out ≡ g.K.Sink.faults l.initial.out)
