use Rattle.std.proofs.Common.{◌≡◌, ◌≤◌, length, take}
use Rattle.std.specs.Prelude.{filter}
use Rattle.dem_jobs.specs.Summaries.{touches}
use Rattle.dem_jobs.proofs.summary.count_in.Given as goal

abbrev pub invariant-loop-i : goal.invariant-loop-i
invariant-loop-i g l = (l.count ≡ length (filter (touches l.shapes l.centers) (take l.i l.list.pairs))) × (l.count ≤ l.i)
