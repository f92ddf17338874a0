use Rattle.std.proofs.Common.{rules}
use Rattle.dem_model.specs.declared.state.Pair.{Pair}
use Rattle.std.proofs.lemmas.Fn.{always_returns_same}
use Rattle.dem_list.proofs.AscendingFacts.{found_at, found_nowhere}
use Rattle.dem_list.proofs.pair_list.PairList.place.Goals as goal

pub returns-in-Ok : goal.returns-in-Ok
returns-in-Ok c =
    rw (← c.self.view_is, ← c.as_slice.ensures.value)
    (found_at _ _ _ c.in-Ok.ensures.bound (rw c.key.ensures at c.in-Ok.ensures.position (λ (q : Pair). (q.a, q.b)) (always_returns_same _ _ _ (λ a r q k. search rules))))

pub returns-in-Err : goal.returns-in-Err
returns-in-Err c =
    rw (← c.self.view_is)
    (found_nowhere _ _ _ c.self.invariant.0 (rw (c.as_slice.ensures.value, c.key.ensures) at c.in-Err.ensures.position (λ (q : Pair). (q.a, q.b)) (always_returns_same _ _ _ (λ a r q k. search rules))))
