use Rattle.std.proofs.Common.{◌≡◌, ◌-◌, ◌++◌, map}
use Rattle.std.specs.List.{range_with_len}
use Rattle.dem_bins.specs.Keys.{column_of, key_of}
use Rattle.dem_bins.proofs.keys.add_row.Given as goal

abbrev pub invariant-loop-y : goal.invariant-loop-y
invariant-loop-y l = l.keys.items ≡ l.fn.keys.items ++ map (λ y. key_of (column_of l.x y) l.block.z.low l.i) (range_with_len l.block.y.low (l.y - l.block.y.low))
