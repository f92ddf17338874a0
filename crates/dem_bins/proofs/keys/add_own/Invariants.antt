use Rattle.std.proofs.Common.{◌≡◌, ◌-◌, ◌++◌}
use Rattle.std.specs.List.{flat_map, range_with_len}
use Rattle.dem_bins.specs.Keys.{row_keys}
use Rattle.dem_bins.proofs.keys.add_own.Given as goal

abbrev pub invariant-loop-x : goal.invariant-loop-x
invariant-loop-x l = l.keys.items ≡ l.fn.keys.items ++ flat_map (row_keys l.block l.i) (range_with_len l.block.x.low (l.x - l.block.x.low))
