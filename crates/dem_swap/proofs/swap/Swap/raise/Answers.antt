use Rattle.std.proofs.Common.{rules}
use Rattle.dem_swap.proofs.SeatFacts.{raise_from}
use Rattle.dem_swap.proofs.swap.Swap.raise.Goals as goal

pub store-requires : goal.store-requires
store-requires c = (search rules, search rules, raise_from _ _ _ c.seat.invariant)
