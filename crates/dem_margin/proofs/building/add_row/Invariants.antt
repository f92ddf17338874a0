use Rattle.std.proofs.Common.{◌≡◌}
use Rattle.dem_margin.proofs.FoundFacts.{found_in_row}
use Rattle.dem_margin.proofs.building.add_row.Given as goal

abbrev pub invariant-loop-b : goal.invariant-loop-b
invariant-loop-b l = (l.raw.pairs ≡ found_in_row l.shapes l.drift l.centers l.a l.b) × (l.raw.from ≡ l.fn.raw.from)
