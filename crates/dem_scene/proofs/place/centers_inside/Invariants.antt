use Rattle.std.proofs.Common.{◌≡◌, drop}
use Rattle.dem_model.specs.ReadingScene.{centers_inside}
use Rattle.dem_scene.proofs.place.centers_inside.Given as goal

-- those so far are inside, so the others decide
abbrev pub invariant-loop-ball : goal.invariant-loop-ball
invariant-loop-ball l = centers_inside l.draft l.body (drop l.ball-index l.balls) ≡ centers_inside l.draft l.body l.balls
