use Rattle.std.proofs.Common.{◌≡◌, ◌^◌, ◌≤◌, map}
use Rattle.std.specs.Prelude.{max}
use Rattle.std.specs.List.{fold, range_with_len}
use Rattle.dem_model.specs.Near.{reach_of}
use Rattle.dem_bins.proofs.grid.greatest.Given as goal

abbrev pub invariant-loop-i : goal.invariant-loop-i
invariant-loop-i l = (l.most ≡ fold max 0 (map (reach_of l.shapes l.drift) (range_with_len 0 l.i))) × (l.most ≤ 2 ^ 38)
