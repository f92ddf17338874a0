use Rattle.std.proofs.Common.{◌≡◌, map, take}
use Rattle.std.specs.List.{range_with_len}
use Rattle.dem_model.specs.Look.{is_low}
use Rattle.dem_look.proofs.middle.flag_lows.Given as goal

abbrev pub invariant-loop-k : goal.invariant-loop-k
invariant-loop-k l = take l.k l.flags ≡ map (is_low l.shapes l.state) (range_with_len 0 l.k)
