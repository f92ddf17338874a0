use Rattle.std.proofs.Common.{◌≡◌}
use Rattle.dem_margin.proofs.FoundFacts.{found_below}
use Rattle.dem_margin.proofs.building.add_rows.Given as goal

abbrev pub invariant-loop-a : goal.invariant-loop-a
invariant-loop-a l = (l.raw.pairs ≡ found_below l.shapes l.drift l.centers l.a) × (l.raw.from ≡ l.fn.raw.from)
