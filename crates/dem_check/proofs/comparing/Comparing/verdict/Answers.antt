use Rattle.std.proofs.Common.{◌≡◌, ◌∙◌, ◌+◌, ◌-◌, ◌++◌, ◌⊎◌, [], true, length, take, drop, sym, ap, subst, refl, arith}
use Rattle.std.proofs.lemmas.List.{take_rest, length-take-le}
use Rattle.dem_check.specs.Comparisons.{Comparison, held_of}
use Rattle.dem_check.specs.Verdicts.{Checks, line_at}
use Rattle.dem_check.specs.declared.verdict.Verdict.TheVariants.{Differs}
use Rattle.dem_check.proofs.ComparisonFacts.{tail-plain, verdict-is}
use Rattle.dem_check.proofs.comparing.Comparing.verdict.Goals as goal

pub row-requires : goal.row-requires
row-requires c = tail-plain _ c.self.invariant _ _ c.last_row-cut.ensures.cut

pub row-requires-2 : goal.row-requires-2
row-requires-2 c = tail-plain _ c.self.invariant _ _ c.last_row-cut.ensures.cut

pub overflow_add-result : goal.overflow_add-result
overflow_add-result c = record {
  fits = omega
      (arith, c.self.told.1, c.last_row-cut.ensures.few, c.self.invariant.within, length-take-le c.self.inside.at c.self.inside.text.now c.self.invariant.within);
}

pub returns : goal.returns
returns c = λ more rest_is.
    let tail = take (c.self.inside.at - c.last_row-cut.result.start) (drop c.last_row-cut.result.start c.self.inside.text.now) in
    subst (λ (v : Comparison). Checks v.text (held_of v ++ more) (Differs (c.last_row-cut.result.rows + 1) c.in_ok-kept.kept c.in_ok-found.found)) c.self.view_is
    (verdict-is _ c.self.invariant c.last_row-cut.result.start c.last_row-cut.result.rows c.last_row-cut.ensures.cut
    (omega (arith, c.if-saturating_add-eq0.false, c.saturating_add.ensures, ap length c.as_slice-rest.ensures.value)) more
    (subst (λ (v : Comparison). (more ≡ []) ⊎ (v.whole ≡ true)) (sym c.self.view_is) rest_is) (c.last_row-cut.result.rows + 1) c.in_ok-kept.kept c.in_ok-found.found refl
    (c.in_ok-kept.ensures ∙ ap (λ l. line_at (tail ++ l) 0) (take_rest c.self.inside.text.now c.self.inside.at))
    (c.in_ok-found.ensures ∙ ap (λ l. line_at (tail ++ l) 0) c.as_slice-rest.ensures.value))
