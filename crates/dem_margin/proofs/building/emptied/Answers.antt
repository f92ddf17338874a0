use Rattle.std.proofs.Common.{◌≡◌, ℕ, List, [], refl, ap, ap₂, ◌∙◌}
use Rattle.dem_model.specs.declared.state.Pair.{Pair}
use Rattle.dem_list.specs.Ascending.{Pairs}
use Rattle.dem_list.proofs.AscendingFacts.{IsAscending-none}
use Rattle.dem_margin.proofs.OrderFacts.{settled_is}
use Rattle.dem_margin.proofs.building.emptied.Goals as goal

pub returns : goal.returns
returns c =
    let list : ℕ → List Pair → Pairs = λ from pairs. record { from = from; pairs = pairs } in
    let none : c.settle-2.result.pairs ≡ [] =
    settled_is c.raw.result.pairs c.settle-2.result.pairs [] c.settle-2.ensures.ascending c.settle-2.ensures.added (ap (λ (r : Pairs). r.pairs) c.raw.ensures) (IsAscending-none [] refl) in
    ap₂ list (c.settle-2.ensures.from ∙ ap (λ (r : Pairs). r.from) c.raw.ensures) none
