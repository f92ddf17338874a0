use Rattle.std.proofs.Common.{◌≡◌, take}
use Rattle.dem_model.specs.ReadingKinds.{widest_of}
use Rattle.dem_scene.proofs.template.widest_ball.Given as goal

-- the greatest of the radii so far
abbrev pub invariant-loop-ball : goal.invariant-loop-ball
invariant-loop-ball l = l.most ≡ widest_of l.r (take l.ball-index l.balls)
