use Rattle.std.proofs.Common.{◌≡◌}
use Rattle.dem_model.specs.Carry.{kept_of}
use Rattle.dem_model.specs.Frames.{pairs_text}
use Rattle.dem_outside.proofs.Written.{Written}
use Rattle.dem_core.proofs.EntryFacts.{rows_from}
use Rattle.dem_core.proofs.frame.write_held.Given as goal

abbrev pub invariant-loop-i : goal.invariant-loop-i
invariant-loop-i g l =
    Written (g.K.Sink.held l.initial.out) (g.K.Sink.held l.out) (rows_from l.contacts.list.pairs l.contacts.entries l.i) (pairs_text (kept_of l.contacts.list.pairs l.contacts.entries))
    × (g.K.Sink.faults l.out ≡ g.K.Sink.faults l.initial.out)
