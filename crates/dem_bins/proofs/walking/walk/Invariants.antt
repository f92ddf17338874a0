use Rattle.std.proofs.Common.{◌≡◌, ◌+◌, ◌≤◌, ◌++◌, take}
use Rattle.std.specs.List.{flat_map, sum_by}
use Rattle.dem_bins.specs.Walk.{row_of, row_visits}
use Rattle.dem_bins.proofs.walking.walk.Given as goal

abbrev pub invariant-loop-i : goal.invariant-loop-i
invariant-loop-i g l =
    (l.raw.pairs ≡ l.fn.raw.pairs ++ flat_map (row_of l.shapes l.drift l.centers l.blocks l.keys) (take l.i l.keys))
    × (l.raw.from ≡ l.fn.raw.from)
    × (l.tests ≤ l.fn.tests + sum_by (row_visits l.blocks l.keys) (take l.i l.keys))
