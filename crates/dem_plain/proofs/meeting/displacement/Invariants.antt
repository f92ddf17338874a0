use Rattle.std.proofs.Common.{◌≡◌, drop}
use Rattle.dem_model.specs.Step.{held_at}
use Rattle.dem_plain.proofs.meeting.displacement.Given as goal

abbrev pub invariant-loop-entry : goal.invariant-loop-entry
invariant-loop-entry l = held_at (drop l.entry-index l.held) l.pair ≡ held_at l.held l.pair
