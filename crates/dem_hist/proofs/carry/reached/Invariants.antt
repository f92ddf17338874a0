use Rattle.std.proofs.Common.{◌≤◌, ◌-◌, length}
use Rattle.dem_hist.specs.Inside.{AllBefore}
use Rattle.dem_hist.proofs.carry.reached.Given as goal

abbrev pub invariant-loop-at : goal.invariant-loop-at
invariant-loop-at l = record { within : l.at ≤ length l.old.pairs; before : AllBefore l.old.pairs l.at l.pair }

abbrev pub decreases-loop-at : goal.decreases-loop-at
decreases-loop-at l = length l.old.pairs - l.at
