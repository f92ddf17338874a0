use Rattle.std.proofs.Common.{◌≡◌, ◌+◌, ◌++◌, ◌∷◌, [], length, ap, sym, ◌∙◌, arith}
use Rattle.std.proofs.lemmas.List.Elements.{All-nil, All-push}
use Rattle.std.proofs.lemmas.List.{length_push}
use Rattle.std.proofs.lemmas.Result.{err_from_is_err_and}
use Rattle.dem_scene.proofs.Elements.{rest_from, starts, goes_on, ends, is_done}
use Rattle.dem_scene.proofs.list.read_each.Goals as goal

pub loop-i-init : goal.loop-i-init
loop-i-init g c = record {
  so_far = ap (λ f. rest_from (g.R.ReadItem.gives c.args.reader.now) f 0 c.args.values.now) c.new-found.ensures ∙ starts (g.R.ReadItem.gives c.args.reader.now) c.args.values.now;
  ranges = rw c.new-found.ensures (All-nil _);
  count = ap length c.new-found.ensures;
}

pub returns-in_err-item-clause-value : goal.returns-in_err-item-clause-value
returns-in_err-item-clause-value g c =
    let p = err_from_is_err_and c.from_residual.result c.from_residual.ensures.1 in
    rw (p.1, p.2, ← c.loop-i.invariant.so_far) (ends (g.R.ReadItem.gives c.args.reader.now) c.loop-i.found c.loop-i.i c.args.values.now c.index-values-i.result c.in_err-item.field-0.0 c.loop-i-test.true c.index-values-i.is c.in_err-item.ensures.value)

pub loop-i-preserved : goal.loop-i-preserved
loop-i-preserved g c =
    let e : c.push.new.self ≡ c.loop-i.found ++ c.in_ok-item.item ∷ [] = c.in_ok-push.ensures.ok in
    record {
      so_far = ap (λ xs. rest_from (g.R.ReadItem.gives c.args.reader.now) xs (c.loop-i.i + 1) c.args.values.now) e ∙ sym (goes_on (g.R.ReadItem.gives c.args.reader.now) c.loop-i.found c.loop-i.i c.args.values.now c.index-values-i.result c.in_ok-item.item c.loop-i-test.true c.index-values-i.is c.in_ok-item.ensures.value) ∙ c.loop-i.invariant.so_far;
      ranges = rw e (All-push (g.R.ReadItem.keeps c.args.reader.now) _ _ c.loop-i.invariant.ranges c.in_ok-item.ensures.range);
      count = ap length e ∙ length_push c.loop-i.found c.in_ok-item.item ∙ ap (λ n. n + 1) c.loop-i.invariant.count;
    }

pub returns-clause-value : goal.returns-clause-value
returns-clause-value g c =
    sym c.loop-i.invariant.so_far ∙ is_done (g.R.ReadItem.gives c.args.reader.now) c.loop-i.found c.loop-i.i c.args.values.now (omega arith)
