use Rattle.std.proofs.Common.{rules}
use Rattle.dem_swap.proofs.SeatFacts.{check_from}
use Rattle.dem_swap.proofs.swap.Swap.stopped.Goals as goal

pub load-requires : goal.load-requires
load-requires c = (search rules, search rules, check_from _ _ _ c.seat.invariant)
