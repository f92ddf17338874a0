use Rattle.std.proofs.Common.{◌≡◌, pos, take}
use Rattle.std.specs.Prelude.{fold}
use Rattle.dem_model.specs.Look.{higher}
use Rattle.dem_look.proofs.heights.highest.Given as goal

abbrev pub invariant-loop-body : goal.invariant-loop-body
invariant-loop-body l = l.top ≡ fold higher (pos 0) (take l.body-index l.bodies)
