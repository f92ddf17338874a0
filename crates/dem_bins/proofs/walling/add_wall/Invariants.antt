use Rattle.std.proofs.Common.{◌≡◌, ◌+◌, ◌≤◌, ◌++◌}
use Rattle.std.specs.List.{flat_map, range_with_len}
use Rattle.dem_model.specs.Pairs.{pair_of}
use Rattle.dem_margin.specs.NearList.{pair_if_near}
use Rattle.dem_bins.proofs.walling.add_wall.Given as goal

abbrev pub invariant-loop-a : goal.invariant-loop-a
invariant-loop-a g l =
    (l.raw.pairs ≡ l.fn.raw.pairs ++ flat_map (λ a. pair_if_near l.shapes l.drift l.centers (pair_of a l.b)) (range_with_len 0 l.a))
    × (l.raw.from ≡ l.fn.raw.from)
    × (l.tests ≤ l.fn.tests + l.a)
