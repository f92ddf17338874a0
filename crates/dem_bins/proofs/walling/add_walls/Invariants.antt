use Rattle.std.proofs.Common.{◌≡◌, ◌+◌, ◌*◌, ◌-◌, ◌≤◌, ◌++◌}
use Rattle.std.specs.List.{flat_map, range_with_len}
use Rattle.dem_model.specs.Pairs.{sphere_count}
use Rattle.dem_bins.specs.Walk.{wall_found}
use Rattle.dem_bins.proofs.walling.add_walls.Given as goal

abbrev pub invariant-loop-b : goal.invariant-loop-b
invariant-loop-b g l =
    (l.raw.pairs ≡ l.fn.raw.pairs ++ flat_map (wall_found l.shapes l.drift l.centers) (range_with_len (sphere_count l.shapes) (l.b - sphere_count l.shapes)))
    × (l.raw.from ≡ l.fn.raw.from)
    × (l.tests ≤ l.fn.tests + sphere_count l.shapes * (l.b - sphere_count l.shapes))
