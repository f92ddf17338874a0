use Rattle.std.proofs.Common.{◌≡◌, false, take}
use Rattle.std.specs.Prelude.{not}
use Rattle.std.specs.List.{list_any}
use Rattle.dem_model.specs.Position.{in_box}
use Rattle.dem_model.specs.Spheres.{center_of}
use Rattle.dem_force.proofs.advancing.limits.some_outside.Given as goal

abbrev pub invariant-loop-ball : goal.invariant-loop-ball
invariant-loop-ball l = list_any (λ x. not (in_box l.scene (center_of l.body x))) (take l.ball-index l.balls) ≡ false
