use Rattle.std.proofs.Common.{rules}
use Rattle.dem_swap.proofs.SeatFacts.{begin_from, begun, split_from}
use Rattle.dem_swap.proofs.opening.begin.Goals as goal

pub load-requires : goal.load-requires
load-requires g c = (search rules, search rules, begin_from _ _ _ g.J.Meant.terms c.requires.seat.1 c.requires.fresh)

pub split_seat-second-requires : goal.split_seat-second-requires
split_seat-second-requires g c =
    let e = c.load.ensures in
    (search rules, search rules, split_from _ _ _ g.J.Meant.terms c.requires.seat.1 e.1 (begun _ _ g.J.Meant.terms c.requires.fresh e.2))
