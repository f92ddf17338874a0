use Rattle.std.proofs.Common.{◌≡◌}
use Rattle.std.specs.List.{flat_map, range_with_len}
use Rattle.dem_bins.specs.Blocks.{block_at}
use Rattle.dem_bins.specs.Keys.{own_keys}
use Rattle.dem_bins.proofs.keys.all_keys.Given as goal

abbrev pub invariant-loop-i : goal.invariant-loop-i
invariant-loop-i l = l.keys.items ≡ flat_map (λ i. own_keys (block_at l.blocks i) i) (range_with_len 0 l.i)
