use Rattle.std.proofs.Common.{◌≡◌, ℕ, ◌<◌, ◌≤◌, ap, ◌∙◌, arith}
use Rattle.std.proofs.lemmas.Result.{err_from_is_err_and}
use Rattle.dem_model.specs.SceneValue.{SceneValue}
use Rattle.dem_model.specs.declared.state.State.{State}
use Rattle.dem_output.proofs.RunFacts.{StandsAt-done, LacksEnd-closed, LacksEnd-failed}
use Rattle.dem_output.proofs.LoopFacts.{begun, goes-on, comes-nearer, comes-to-end, stopped, Rose-from}
use Rattle.dem_output.proofs.running.write_on.Goals as goal

-- the loop's test read the number of the run's state and the steps of the scene
below : (n : ℕ) (s : SceneValue) (read here : State) → n ≡ s.steps → read ≡ here → read.step < n → here.step < s.steps
below n s read here steps same lt = omega (arith, ap (λ (st : State). st.step) same)

above : (n : ℕ) (read here : State) → read ≡ here → n ≤ read.step → n ≤ here.step
above n read here same le = omega (arith, ap (λ (st : State). st.step) same)

pub loop-scene-init : goal.loop-scene-init
loop-scene-init g c = begun _ _ c.args.scene.now c.args.run.now c.requires.same c.requires.in_range

pub returns-in_err-end : goal.returns-in_err-end
returns-in_err-end g c =
    let p = err_from_is_err_and c.from_residual.result c.from_residual.ensures.1 in
    let lt = below _ c.args.scene.now _ _ (ap (λ (s : SceneValue). s.steps) c.scene.view_is) c.state.ensures.value c.loop-scene-test.true in
    rw (p.1, p.2) (stopped _ _ _ _ _ _ _ _ c.loop-scene.run c.step_on.new.run c.loop-scene.invariant lt _ c.in_err-end.ensures)

pub returns-in_err-close : goal.returns-in_err-close
returns-in_err-close g c =
    let p = err_from_is_err_and c.from_residual-in_err-close.result c.from_residual-in_err-close.ensures.1 in
    let lt = below _ c.args.scene.now _ _ (ap (λ (s : SceneValue). s.steps) c.scene.view_is) c.state.ensures.value c.loop-scene-test.true in
    let end = comes-to-end _ _ _ _ _ _ _ _ c.loop-scene.run c.step_on.new.run c.loop-scene.invariant lt _ _ c.in-Some.is c.in_ok-end.ensures in
    rw (p.1, p.2) (LacksEnd-failed _ _ _ _ _ _ end.0 c.in_err-close.ensures.written, Rose-from _ _ _ end.1 c.in_err-close.ensures.count)

pub returns-in-Some : goal.returns-in-Some
returns-in-Some g c =
    let lt = below _ c.args.scene.now _ _ (ap (λ (s : SceneValue). s.steps) c.scene.view_is) c.state.ensures.value c.loop-scene-test.true in
    let end = comes-to-end _ _ _ _ _ _ _ _ c.loop-scene.run c.step_on.new.run c.loop-scene.invariant lt _ _ c.in-Some.is c.in_ok-end.ensures in
    (c.in_ok-close.ensures.value ∙ end.0.ends, LacksEnd-closed _ _ _ _ _ _ end.0 c.in_ok-close.ensures.written, c.in_ok-close.ensures.count ∙ end.1)

pub loop-scene-smaller : goal.loop-scene-smaller
loop-scene-smaller g c =
    let lt = below _ c.args.scene.now _ _ (ap (λ (s : SceneValue). s.steps) c.scene.view_is) c.state.ensures.value c.loop-scene-test.true in
    comes-nearer _ _ _ _ _ _ _ _ c.loop-scene.run c.step_on.new.run c.loop-scene.invariant lt _ c.in_default.is c.in_ok-end.ensures

pub loop-scene-preserved : goal.loop-scene-preserved
loop-scene-preserved g c =
    let lt = below _ c.args.scene.now _ _ (ap (λ (s : SceneValue). s.steps) c.scene.view_is) c.state.ensures.value c.loop-scene-test.true in
    goes-on _ _ _ _ _ _ _ _ c.loop-scene.run c.step_on.new.run c.loop-scene.invariant lt _ c.in_default.is c.in_ok-end.ensures

pub returns-in_err-close-2 : goal.returns-in_err-close-2
returns-in_err-close-2 g c =
    let p = err_from_is_err_and c.from_residual-in_err-close-2.result c.from_residual-in_err-close-2.ensures.1 in
    let le = above _ _ _ c.state.ensures.value c.loop-scene-test.false in
    let end = StandsAt-done _ _ _ _ _ _ c.loop-scene.invariant.stands (ap (λ (s : SceneValue). s.steps) c.scene.view_is) le in
    rw (p.1, p.2) (LacksEnd-failed _ _ _ _ _ _ end c.in_err-close-2.ensures.written, Rose-from _ _ _ c.loop-scene.invariant.count c.in_err-close-2.ensures.count)

pub returns : goal.returns
returns g c =
    let le = above _ _ _ c.state.ensures.value c.loop-scene-test.false in
    let end = StandsAt-done _ _ _ _ _ _ c.loop-scene.invariant.stands (ap (λ (s : SceneValue). s.steps) c.scene.view_is) le in
    (c.in_ok-close-2.ensures.value ∙ end.ends, LacksEnd-closed _ _ _ _ _ _ end c.in_ok-close-2.ensures.written, c.in_ok-close-2.ensures.count ∙ c.loop-scene.invariant.count)
