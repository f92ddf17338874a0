use Rattle.std.proofs.Common.{◌+◌, ◌&&◌, drop, ap, sym, ◌∙◌, arith}
use Rattle.dem_model.specs.ReadingScene.{centers_inside}
use Rattle.dem_scene.proofs.PlaceFacts.{centers_done, centers_step}
use Rattle.dem_scene.proofs.place.centers_inside.Goals as goal

pub returns-then-not-in_box : goal.returns-then-not-in_box
returns-then-not-in_box c =
    ap (λ t. t && centers_inside c.args.draft.now c.args.body (drop (c.loop-ball.ball-index + 1) c.args.balls.now)) c.if-not-in_box.ensures
    ∙ sym (centers_step c.args.draft.now c.args.body c.args.balls.now c.loop-ball.ball-index _ c.center.result c.loop-ball-test.true c.center.ensures)
    ∙ c.loop-ball.invariant

pub loop-ball-preserved : goal.loop-ball-preserved
loop-ball-preserved c =
    ap (λ t. t && centers_inside c.args.draft.now c.args.body (drop (c.loop-ball.ball-index + 1) c.args.balls.now)) c.if-not-in_box.ensures
    ∙ sym (centers_step c.args.draft.now c.args.body c.args.balls.now c.loop-ball.ball-index _ c.center.result c.loop-ball-test.true c.center.ensures)
    ∙ c.loop-ball.invariant

pub returns : goal.returns
returns c = sym (centers_done c.args.draft.now c.args.body c.args.balls.now c.loop-ball.ball-index (omega arith)) ∙ c.loop-ball.invariant
