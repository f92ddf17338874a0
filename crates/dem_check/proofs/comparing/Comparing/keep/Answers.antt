use Rattle.std.proofs.Common.{◌≡◌, ◌∙◌, ◌+◌, ◌++◌, [], true, take, drop, sym, ap, subst, refl, arith}
use Rattle.std.specs.Prelude.{slice_get}
use Rattle.std.proofs.lemmas.List.{take-append-drop}
use Rattle.dem_check.specs.Comparisons.{Comparison, IsComparison, marked}
use Rattle.dem_check.specs.Cuts.{HasNoNewline}
use Rattle.dem_check.proofs.LineFacts.{line-plain}
use Rattle.dem_check.proofs.ComparisonFacts.{held-kept, marked-more, kept-going, kept-ended}
use Rattle.dem_check.proofs.comparing.Comparing.keep.Goals as goal

pub invariant_of-self-then-n-piece : goal.invariant_of-self-then-n-piece
invariant_of-self-then-n-piece c =
    let view : Comparison = record {
      text = c.self.inside.text.now;
      at = c.self.inside.at;
      rest = c.self.inside.rest.items;
      whole = c.self.inside.whole;
      short = c.self.inside.short;
      faults = c.self.inside.faults;
    } in
    let faults = c.saturating_add-self-inside-then-n-piece.result in
    let size : c.min-end.result ≡ c.line_len-n.result + 1 = omega (arith, c.min-end.ensures, c.if-n-piece.true) in
    subst (λ r. IsComparison (record view { rest = r; whole = true; faults = faults })) (sym c.in_default.ensures.items)
    (kept-ended view c.self.invariant c.if-self.false c.args.piece.now c.min-end.result
    (subst (λ (v : Comparison). v.rest ≡ [] → slice_get v.text v.at ≡ slice_get c.args.piece.now 0 → ⊥) (sym c.self.view_is) c.requires)
    c.line_len-n.result faults size c.if-n-piece.true c.line_len-n.ensures.line (c.line_len-n.ensures.newline c.if-n-piece.true))

pub returns-then-n-piece-clause-appended : goal.returns-then-n-piece-clause-appended
returns-then-n-piece-clause-appended c = (
  take c.min-end.result c.args.piece.now,
  drop c.min-end.result c.args.piece.now,
  take-append-drop c.min-end.result c.args.piece.now,
  marked-more c.self.inside.text.now (take c.self.inside.at c.self.inside.text.now ++ c.self.inside.rest.items) (take c.min-end.result c.args.piece.now) _
      (ap (λ r. take c.self.inside.at c.self.inside.text.now ++ r) c.in_default.ensures.items
      ∙ held-kept c.self.inside.text.now c.self.inside.rest.items c.args.piece.now c.self.inside.at c.min-end.result)
      ∙ ap (λ (v : Comparison). marked v ++ take c.min-end.result c.args.piece.now) c.self.view_is,
)

pub invariant_of-self-else-n-piece : goal.invariant_of-self-else-n-piece
invariant_of-self-else-n-piece c =
    let view : Comparison = record {
      text = c.self.inside.text.now;
      at = c.self.inside.at;
      rest = c.self.inside.rest.items;
      whole = c.self.inside.whole;
      short = c.self.inside.short;
      faults = c.self.inside.faults;
    } in
    let size : c.min-end.result ≡ c.line_len-n.result = omega (arith, c.min-end.ensures, c.if-n-piece.false, c.line_len-n.ensures.within) in
    subst (λ r. IsComparison (record view { rest = r })) (sym c.in_default.ensures.items)
    (kept-going view c.self.invariant c.if-self.false c.args.piece.now c.min-end.result
    (subst (λ (v : Comparison). v.rest ≡ [] → slice_get v.text v.at ≡ slice_get c.args.piece.now 0 → ⊥) (sym c.self.view_is) c.requires)
    c.self.inside.faults refl
    (subst HasNoNewline (sym (ap (λ k. take k c.args.piece.now) size ∙ c.line_len-n.ensures.line)) (line-plain c.args.piece.now)))
