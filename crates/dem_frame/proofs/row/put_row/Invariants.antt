use Rattle.std.proofs.Common.{◌≤◌, ◌+◌, ◌*◌, length, drop}
use Rattle.dem_frame.proofs.RowFacts.{Builds}
use Rattle.dem_frame.proofs.row.put_row.Given as goal

abbrev pub invariant-loop-number : goal.invariant-loop-number
invariant-loop-number g l =
    Builds l.row.items l.name (drop l.number-index l.numbers) l.numbers
    × (length l.row.items ≤ length l.name + 21 * l.number-index)
