use Rattle.std.proofs.Common.{◌≡◌, ◌∙◌, ◌++◌, ◌==◌, length, take, sym, ap}
use Rattle.std.proofs.lemmas.List.{take_rest}
use Rattle.std.specs.Prelude.{slice_get}
use Rattle.dem_check.specs.Comparisons.{Comparison, marked}
use Rattle.dem_check.proofs.ComparisonFacts.{held-more, marked-more, is-nil, slice_get-drop}
use Rattle.dem_check.proofs.comparing.Comparing.pass.Goals as goal

pub returns-clause-held : goal.returns-clause-held
returns-clause-held c =
    marked-more c.self.inside.text.now (take c.self.inside.at c.self.inside.text.now ++ c.self.inside.rest.items) (take c.common-n.result c.args.piece.now) _
    (held-more c.self.inside.text.now c.self.inside.rest.items c.args.piece.now c.self.inside.at c.common-n.result
    (is-nil c.self.inside.rest.items (ap (λ l. length l == 0) (sym c.as_slice.ensures.value) ∙ sym c.is_empty.ensures ∙ c.if-not-is_empty.false))
    (ap (take c.common-n.result) (sym (take_rest c.self.inside.text.now c.self.inside.at)) ∙ c.common-n.ensures.same))
    ∙ ap (λ (v : Comparison). marked v ++ take c.common-n.result c.args.piece.now) c.self.view_is

pub returns-clause-parts : goal.returns-clause-parts
returns-clause-parts c = λ below none same.
    c.common-n.ensures.parts below
    (ap (λ l. slice_get l c.common-n.result) (take_rest c.self.inside.text.now c.self.inside.at)
    ∙ slice_get-drop c.self.inside.at c.common-n.result c.self.inside.text.now
    ∙ same)
