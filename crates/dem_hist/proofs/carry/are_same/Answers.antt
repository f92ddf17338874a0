use Rattle.std.proofs.Common.{◌++◌, ◌∷◌, [], take, sym, ap, ◌∙◌}
use Rattle.std.proofs.lemmas.Bool.{not-false}
use Rattle.dem_list.proofs.AscendingFacts.{same_pair-equal}
use Rattle.dem_hist.proofs.CarryFacts.{taken-next}
use Rattle.dem_hist.proofs.carry.are_same.Goals as goal

pub loop-i-preserved : goal.loop-i-preserved
loop-i-preserved c =
    let same = same_pair-equal c.get.result c.get-in-loop-i.result (not-false _ (sym c.ne.ensures ∙ c.if-ne.false)) in
    taken-next c.args.list.now.pairs c.loop-i.i c.get.result c.get.ensures
    ∙ ap (λ ps. ps ++ c.get.result ∷ []) c.loop-i.invariant
    ∙ ap (λ p. take c.loop-i.i c.args.other.now.pairs ++ p ∷ []) same
    ∙ sym (taken-next c.args.other.now.pairs c.loop-i.i c.get-in-loop-i.result c.get-in-loop-i.ensures)
