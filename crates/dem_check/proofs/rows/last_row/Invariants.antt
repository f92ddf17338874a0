use Rattle.std.proofs.Common.{◌≤◌}
use Rattle.dem_check.specs.Cuts.{IsCut}
use Rattle.dem_check.proofs.rows.last_row.Given as goal

abbrev pub invariant-loop-i : goal.invariant-loop-i
invariant-loop-i l = IsCut l.bytes l.start l.rows l.i × (l.rows ≤ l.i)
