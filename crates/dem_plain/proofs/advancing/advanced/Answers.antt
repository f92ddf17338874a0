use Rattle.std.proofs.Common.{◌≡◌, length, sym, ap, ◌∙◌, arith}
use Rattle.dem_model.specs.SceneValue.{SceneValue}
use Rattle.dem_plain.proofs.RunFacts.{AreAdvanced-more, advanced_ends, advanced_all, body_sound}
use Rattle.dem_plain.proofs.advancing.advanced.Goals as goal

pub advance-requires-clause-body : goal.advance-requires-clause-body
advance-requires-clause-body c =
    let there : c.len-k-end.result ≡ length c.args.shapes.now.clumps = c.len-k-end.ensures ∙ ap (λ (s : SceneValue). length s.clumps) (c.behind-shapes.view_is ∙ c.scene.ensures.value) in
    body_sound c.args.shapes.now c.args.bodies.now c.loop-k.k _ c.requires.sound (omega arith)

pub returns-in-Err : goal.returns-in-Err
returns-in-Err c =
    let there : c.len-k-end.result ≡ length c.args.shapes.now.clumps = c.len-k-end.ensures ∙ ap (λ (s : SceneValue). length s.clumps) (c.behind-shapes.view_is ∙ c.scene.ensures.value) in
    advanced_ends c.args.shapes.now c.args.step c.args.bodies.now c.args.loads.now c.loop-k.k c.loop-k.next _ _ c.in-Err.kind
    (omega arith) c.requires.sound.count c.requires.loads.count (sym c.advance.ensures.value ∙ c.in-Err.is) c.loop-k.invariant

pub loop-k-preserved : goal.loop-k-preserved
loop-k-preserved c =
    let there : c.len-k-end.result ≡ length c.args.shapes.now.clumps = c.len-k-end.ensures ∙ ap (λ (s : SceneValue). length s.clumps) (c.behind-shapes.view_is ∙ c.scene.ensures.value) in
    AreAdvanced-more c.args.shapes.now c.args.step c.args.bodies.now c.args.loads.now c.loop-k.k c.loop-k.next c.push.new.self _ _ c.in-Ok.body
    (omega arith) c.requires.sound.count c.requires.loads.count (sym c.advance.ensures.value ∙ c.in-Ok.is) c.in-Ok.ensures.sound c.in_ok-push-in-Ok.ensures.ok c.loop-k.invariant

pub returns : goal.returns
returns c =
    let there : c.len-k-end.result ≡ length c.args.shapes.now.clumps = c.len-k-end.ensures ∙ ap (λ (s : SceneValue). length s.clumps) (c.behind-shapes.view_is ∙ c.scene.ensures.value) in
    advanced_all c.args.shapes.now c.args.step c.args.bodies.now c.args.loads.now c.loop-k.k c.loop-k.next (omega arith) c.loop-k.invariant
