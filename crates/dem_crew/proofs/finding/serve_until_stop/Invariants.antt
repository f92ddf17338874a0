use Rattle.std.proofs.Common.{◌≡◌, Some}
use Rattle.dem_model.specs.Exchange.{terms_of}
use Rattle.dem_model.specs.ExchangeKinds.{HoldsNone}
use Rattle.dem_crew.proofs.finding.serve_until_stop.Given as goal

-- the seat stays at its exchange and holds nothing, and the work is of the same shapes and the same grid
abbrev pub invariant-loop : goal.invariant-loop
invariant-loop g l =
    (goal.iterator-loop g).can_next l.iterator'
    × (goal.iterator-loop g).is_finite l.iterator'
    × (l.seat.table ≡ l.fn.swap)
    × (l.seat.view.terms ≡ Some (terms_of l.fn.shapes l.fn.grid.drift))
    × HoldsNone l.seat.view
    × (l.finder.shapes.now ≡ l.fn.shapes)
    × (l.finder.grid.now ≡ l.fn.grid)
