use Rattle.std.proofs.Common.{◌≤◌, ◌-◌, length, take}
use Rattle.dem_check.specs.Cuts.{HasNoNewline}
use Rattle.dem_check.proofs.bytes.line_len.Given as goal

abbrev pub invariant-loop-n : goal.invariant-loop-n
invariant-loop-n l = (l.n ≤ length l.bytes) × HasNoNewline (take l.n l.bytes)

abbrev pub decreases-loop-n : goal.decreases-loop-n
decreases-loop-n l = length l.bytes - l.n
