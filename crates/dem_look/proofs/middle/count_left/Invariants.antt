use Rattle.std.proofs.Common.{◌≡◌, ◌≤◌, not, ◌&&◌}
use Rattle.std.specs.List.{count_by, range_with_len}
use Rattle.dem_look.specs.Inside.{flag_at}
use Rattle.dem_look.proofs.middle.count_left.Given as goal

abbrev pub invariant-loop-k : goal.invariant-loop-k
invariant-loop-k l = (l.count ≡ count_by (λ j. flag_at l.low j && not (flag_at l.high j)) (range_with_len 0 l.k)) × (l.count ≤ l.k)
