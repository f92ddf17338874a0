use Rattle.std.proofs.Common.{◌≡◌, length}
use Rattle.dem_force.proofs.pushing.side_list.Sides.new.Given as goal

abbrev pub invariant-loop : goal.invariant-loop
invariant-loop l = length l.items.items ≡ l.counter
