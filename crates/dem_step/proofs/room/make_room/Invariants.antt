use Rattle.std.proofs.Common.{◌≡◌, ◌≤◌, length}
use Rattle.dem_step.proofs.room.make_room.Given as goal

abbrev pub invariant-loop : goal.invariant-loop
invariant-loop g l = (length l.entries.items ≡ l.counter) × (length l.fn.entries.items ≤ l.counter)
