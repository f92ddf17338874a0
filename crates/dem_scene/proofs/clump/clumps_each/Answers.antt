use Rattle.std.proofs.Common.{◌≡◌, ◌+◌, ◌++◌, ◌∷◌, [], length, ap, sym, ◌∙◌, arith}
use Rattle.std.proofs.lemmas.List.{length_push}
use Rattle.std.proofs.lemmas.List.Elements.{All-nil, All-push}
use Rattle.std.proofs.lemmas.Result.{err_from_is_err_and}
use Rattle.dem_model.specs.Spheres.{spheres_from}
use Rattle.dem_model.specs.ReadingKinds.{ball_count}
use Rattle.dem_scene.specs.Clumps.{IsClumpRead}
use Rattle.dem_scene.proofs.GivesFacts.{fails_from}
use Rattle.dem_scene.proofs.ClumpFacts.{clumps_rest, clumps_start, clumps_go_on, clumps_end, clumps_done, spheres_more}
use Rattle.dem_scene.proofs.clump.clumps_each.Goals as goal

pub loop-i-init : goal.loop-i-init
unfolding spheres_from
loop-i-init c = record {
  so_far = ap (λ f. clumps_rest c.args.later c.args.templates.now f 0 0 c.args.values.now) c.new-found.ensures ∙ clumps_start c.args.later c.args.templates.now c.args.values.now;
  ranges = rw c.new-found.ensures (All-nil _);
  count = ap length c.new-found.ensures;
  counted = ap (λ f. length (spheres_from c.args.templates.now 0 f)) c.new-found.ensures;
  room = omega arith;
}

pub returns-in_err-item-clause-value : goal.returns-in_err-item-clause-value
returns-in_err-item-clause-value c =
    let p = err_from_is_err_and c.from_residual.result c.from_residual.ensures.1 in
    let e = sym c.loop-i.invariant.so_far ∙ clumps_end c.args.later c.args.templates.now c.loop-i.found c.loop-i.before c.loop-i.i c.args.values.now c.index-values-i.result c.in_err-item.field-0.0 c.loop-i-test.true c.index-values-i.is (sym c.in_err-item.ensures.value) in
    rw (p.1, p.2) (fails_from c.in_err-item.field-0.0 _ e)

pub loop-i-preserved : goal.loop-i-preserved
loop-i-preserved c =
    let e : c.push.new.self ≡ c.loop-i.found ++ c.in_ok-item.item ∷ [] = c.in_ok-push.ensures.ok in
    let b : c.balls-before.result ≡ ball_count c.args.templates.now c.in_ok-item.item.t = c.balls-before.ensures in
    record {
      so_far = ap (λ xs. clumps_rest c.args.later c.args.templates.now xs (c.loop-i.before + c.balls-before.result) (c.loop-i.i + 1) c.args.values.now) e ∙ ap (λ n. clumps_rest c.args.later c.args.templates.now (c.loop-i.found ++ c.in_ok-item.item ∷ []) (c.loop-i.before + n) (c.loop-i.i + 1) c.args.values.now) b ∙ sym (clumps_go_on c.args.later c.args.templates.now c.loop-i.found c.loop-i.before c.loop-i.i c.args.values.now c.index-values-i.result c.in_ok-item.item c.loop-i-test.true c.index-values-i.is (sym c.in_ok-item.ensures.value)) ∙ c.loop-i.invariant.so_far;
      ranges = rw e (All-push (IsClumpRead c.args.templates.now) _ _ c.loop-i.invariant.ranges c.in_ok-item.ensures.range);
      count = ap length e ∙ length_push c.loop-i.found c.in_ok-item.item ∙ ap (λ n. n + 1) c.loop-i.invariant.count;
      counted = ap (λ xs. length (spheres_from c.args.templates.now 0 xs)) e ∙ spheres_more c.args.templates.now c.loop-i.found c.in_ok-item.item ∙ ap (λ n. n + ball_count c.args.templates.now c.in_ok-item.item.t) c.loop-i.invariant.counted ∙ ap (λ n. c.loop-i.before + n) (sym b);
      room = omega (arith, c.in_ok-item.ensures.total, b);
    }

pub returns-clause-value : goal.returns-clause-value
returns-clause-value c =
    sym c.loop-i.invariant.so_far ∙ clumps_done c.args.later c.args.templates.now c.loop-i.found c.loop-i.before c.loop-i.i c.args.values.now (omega arith)
