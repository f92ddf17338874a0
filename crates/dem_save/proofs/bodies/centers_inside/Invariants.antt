use Rattle.std.proofs.Common.{◌≡◌, true, take}
use Rattle.std.specs.List.{list_all}
use Rattle.dem_model.specs.Position.{in_box}
use Rattle.dem_model.specs.Spheres.{center_of}
use Rattle.dem_save.proofs.bodies.centers_inside.Given as goal

-- those so far are inside
abbrev pub invariant-loop-ball : goal.invariant-loop-ball
invariant-loop-ball l = list_all (λ x. in_box l.scene (center_of l.body x)) (take l.ball-index l.balls) ≡ true
