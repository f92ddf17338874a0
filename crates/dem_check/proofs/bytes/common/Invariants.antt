use Rattle.std.proofs.Common.{◌≡◌, ◌≤◌, ◌-◌, length, take}
use Rattle.dem_check.proofs.bytes.common.Given as goal

abbrev pub invariant-loop-n : goal.invariant-loop-n
invariant-loop-n l = (l.n ≤ length l.kept) × (l.n ≤ length l.found) × (take l.n l.kept ≡ take l.n l.found)

abbrev pub decreases-loop-n : goal.decreases-loop-n
decreases-loop-n l = length l.kept - l.n
