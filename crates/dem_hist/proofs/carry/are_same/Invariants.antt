use Rattle.std.proofs.Common.{◌≡◌, take}
use Rattle.dem_hist.proofs.carry.are_same.Given as goal

abbrev pub invariant-loop-i : goal.invariant-loop-i
invariant-loop-i l = take l.i l.list.pairs ≡ take l.i l.other.pairs
