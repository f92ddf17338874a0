use Rattle.std.proofs.Common.{◌≡◌, drop}
use Rattle.dem_outside.proofs.Written.{Written}
use Rattle.dem_model.specs.Frames.{pairs_text}
use Rattle.dem_frame.proofs.state.write_pairs.Given as goal

abbrev pub invariant-loop-entry : goal.invariant-loop-entry
invariant-loop-entry g l =
    Written (g.K.Sink.held l.initial.out) (g.K.Sink.held l.out) (pairs_text (drop l.entry-index l.held)) (pairs_text l.held)
    × (g.K.Sink.faults l.out ≡ g.K.Sink.faults l.initial.out)
