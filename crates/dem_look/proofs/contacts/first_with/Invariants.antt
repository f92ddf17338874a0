use Rattle.std.proofs.Common.{◌≡◌, length, drop, find}
use Rattle.std.specs.Prelude.{◌==◌}
use Rattle.std.specs.List.{range_with_len}
use Rattle.dem_look.specs.Inside.{count_at}
use Rattle.dem_look.proofs.contacts.first_with.Given as goal

abbrev pub invariant-loop-k : goal.invariant-loop-k
invariant-loop-k l =
    find (λ k. count_at l.counts k == l.most) (drop l.k (range_with_len 0 (length l.counts)))
    ≡ find (λ k. count_at l.counts k == l.most) (range_with_len 0 (length l.counts))
