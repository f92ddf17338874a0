use Rattle.std.proofs.Common.{◌≡◌, ◌+◌, ◌≤◌, ◌++◌, get_or, take}
use Rattle.std.specs.Prelude.{if◌then◌else◌}
use Rattle.std.specs.List.{flat_map, sum_by}
use Rattle.dem_bins.specs.Walk.{meets, met}
use Rattle.dem_bins.proofs.walking.add_row.Given as goal

abbrev pub invariant-loop-j : goal.invariant-loop-j
invariant-loop-j g l =
    (l.raw.pairs ≡ l.fn.raw.pairs ++ flat_map (met l.shapes l.drift l.centers l.blocks (get_or l.keys l.i 0)) (take l.j l.keys))
    × (l.raw.from ≡ l.fn.raw.from)
    × (l.tests ≤ l.fn.tests + sum_by (λ d. if meets l.blocks (get_or l.keys l.i 0) d then 1 else 0) (take l.j l.keys))
