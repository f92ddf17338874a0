use Rattle.std.proofs.Common.{rules, arith}
use Rattle.dem_model.specs.declared.state.Pair.{Pair}
use Rattle.std.proofs.lemmas.Fn.{always_returns_same}
use Rattle.std.proofs.lemmas.List.Filters.{dedup_is}
use Rattle.dem_list.proofs.AscendingFacts.{settled_ascends, settled_keeps}
use Rattle.dem_list.proofs.raw_pairs.RawPairs.settle.Goals as goal

ascends : goal.returns-clause-ascending
ascends c = settled_ascends _ _ (c.sort_unstable_by_key.ensures.sorted (λ (p : Pair). (p.a, p.b)) (always_returns_same _ _ _ (λ a r q k. search rules))) (dedup_is _ _ _ c.dedup.ensures.filtered)

pub invariant_of-result : goal.invariant_of-result
invariant_of-result c = (ascends c, omega (arith, c.dedup.ensures.bound, c.sort_unstable_by_key.ensures.len, c.self.invariant))

pub returns-clause-ascending : goal.returns-clause-ascending
returns-clause-ascending c = ascends c

pub returns-clause-added : goal.returns-clause-added
returns-clause-added c = rw (← c.self.view_is) (settled_keeps _ _ _ c.sort_unstable_by_key.ensures.permutation (dedup_is _ _ _ c.dedup.ensures.filtered))
