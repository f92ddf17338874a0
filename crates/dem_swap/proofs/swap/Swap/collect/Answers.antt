use Rattle.std.proofs.Common.{rules, ◌≡◌, Some}
use Rattle.dem_swap.proofs.SeatFacts.{collect_from, taken_slot}
use Rattle.dem_swap.proofs.swap.Swap.collect.Goals as goal

pub compare_exchange-requires : goal.compare_exchange-requires
compare_exchange-requires c = (search rules, search rules, collect_from _ _ _ c.seat.invariant)

pub exchange-requires : goal.exchange-requires
exchange-requires c =
    let read : c.compare_exchange.result ≡ 3 = search rules in
    let w = c.compare_exchange.ensures.2.0 read in
    (search rules, (Some w.0, taken_slot _ _ _ _ w.1))
