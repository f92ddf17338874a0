use Rattle.std.proofs.Common.{◌≡◌, map}
use Rattle.std.specs.List.{range_with_len}
use Rattle.dem_bins.specs.Blocks.{block_of}
use Rattle.dem_bins.proofs.blocks.all_blocks.Given as goal

abbrev pub invariant-loop-i : goal.invariant-loop-i
invariant-loop-i l = l.blocks.items ≡ map (block_of l.shapes l.grid l.centers) (range_with_len 0 l.i)
