use Rattle.std.proofs.Common.{rules, ap}
use Rattle.dem_swap.specs.Seats.{KinSeatValue}
use Rattle.dem_swap.proofs.SeatFacts.{filled_taken, deliver_from}
use Rattle.dem_swap.proofs.swap.Swap.deliver.Goals as goal

pub store-requires : goal.store-requires
store-requires c =
    let e = c.exchange.ensures in
    let is = ap (λ (v : KinSeatValue). v.view) c.seat.view_is in (
      search rules,
      search rules,
      deliver_from _ _ _ c.args.seat.now.view c.args.parcel (filled_taken _ _ _ _ c.seat.invariant is e.3 c.requires.taken) c.requires.taken c.requires.answer,
    )
