use Rattle.std.proofs.Common.{rules, ◌≡◌, subst, ap, false}
use Rattle.dem_model.specs.Exchange.{DynamicsView}
use Rattle.dem_swap.specs.Seats.{DynSeatValue}
use Rattle.dem_swap.proofs.SeatFacts.{filled_home, post_from}
use Rattle.dem_swap.proofs.swap.Swap.post.Goals as goal

pub store-requires : goal.store-requires
store-requires c =
    let e = c.exchange.ensures in
    let is = ap (λ (v : DynSeatValue). v.view) c.seat.view_is in (
      search rules,
      search rules,
      post_from _ _ _ _ c.args.seat.now.view c.args.parcel c.seat.invariant.first e.1 (filled_home _ _ _ _ _ c.seat.invariant is e.3 c.requires.home)
          (subst (λ (d : DynamicsView). d.alone ≡ false) is c.seat.invariant.in_company) c.requires.home c.requires.sound,
    )
