use Rattle.std.proofs.Common.{◌≡◌, ◌+◌, ◌++◌, ◌∷◌, [], length, ap, sym, ◌∙◌, refl, arith}
use Rattle.std.proofs.lemmas.List.{length_push}
use Rattle.std.proofs.lemmas.List.Elements.{All-nil, All-push}
use Rattle.std.proofs.lemmas.Result.{err_from_is_err_and}
use Rattle.dem_model.specs.Sound.{IsMotion}
use Rattle.dem_scene.proofs.GivesFacts.{fails_from}
use Rattle.dem_scene.proofs.FamilyFacts.{motions_rest, motions_start, motions_go_on, motions_end, motions_done, ascend_more, ascend_all}
use Rattle.dem_scene.proofs.families.motions_each.Goals as goal

pub loop-i-init : goal.loop-i-init
loop-i-init c = record {
  so_far = ap (λ f. motions_rest f 0 0 c.args.values.now) c.new-found.ensures ∙ motions_start c.args.values.now;
  ranges = rw c.new-found.ensures (All-nil _);
  ascends = rw c.new-found.ensures refl;
  count = ap length c.new-found.ensures;
}

pub returns-in_err-item-clause-value : goal.returns-in_err-item-clause-value
returns-in_err-item-clause-value c =
    let p = err_from_is_err_and c.from_residual.result c.from_residual.ensures.1 in
    let e = sym c.loop-i.invariant.so_far ∙ motions_end c.loop-i.found c.loop-i.least c.loop-i.i c.args.values.now c.index-values-i.result c.in_err-item.field-0.0 c.loop-i-test.true c.index-values-i.is (sym c.in_err-item.ensures.value) in
    rw (p.1, p.2) (fails_from c.in_err-item.field-0.0 _ e)

pub loop-i-preserved : goal.loop-i-preserved
loop-i-preserved c =
    let e : c.push.new.self ≡ c.loop-i.found ++ c.in_ok-item.item ∷ [] = c.in_ok-push.ensures.ok in
    record {
      so_far = ap (λ xs. motions_rest xs (c.in_ok-item.item.id + 1) (c.loop-i.i + 1) c.args.values.now) e ∙ sym (motions_go_on c.loop-i.found c.loop-i.least c.loop-i.i c.args.values.now c.index-values-i.result c.in_ok-item.item c.loop-i-test.true c.index-values-i.is (sym c.in_ok-item.ensures.value)) ∙ c.loop-i.invariant.so_far;
      ranges = rw e (All-push IsMotion _ _ c.loop-i.invariant.ranges c.in_ok-item.ensures.range);
      ascends = rw e (ascend_more 0 c.loop-i.found c.loop-i.least c.in_ok-item.item c.loop-i.invariant.ascends c.in_ok-item.ensures.later);
      count = ap length e ∙ length_push c.loop-i.found c.in_ok-item.item ∙ ap (λ n. n + 1) c.loop-i.invariant.count;
    }

pub returns-clause-value : goal.returns-clause-value
returns-clause-value c =
    sym c.loop-i.invariant.so_far ∙ motions_done c.loop-i.found c.loop-i.least c.loop-i.i c.args.values.now (omega arith)

pub returns-clause-ascending : goal.returns-clause-ascending
returns-clause-ascending c = ascend_all 0 c.loop-i.found c.loop-i.least c.loop-i.invariant.ascends
