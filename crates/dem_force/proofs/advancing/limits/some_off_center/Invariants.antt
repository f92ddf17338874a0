use Rattle.std.proofs.Common.{◌≡◌, false, take}
use Rattle.std.specs.Prelude.{not}
use Rattle.std.specs.List.{list_any}
use Rattle.dem_num.specs.Vectors.{widened, is_zero}
use Rattle.dem_force.proofs.advancing.limits.some_off_center.Given as goal

abbrev pub invariant-loop-ball : goal.invariant-loop-ball
invariant-loop-ball l = list_any (λ x. not (is_zero (widened x.at))) (take l.ball-index l.balls) ≡ false
