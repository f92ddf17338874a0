use Rattle.std.proofs.Common.{◌≡◌, drop}
use Rattle.dem_model.specs.Families.{motion_for}
use Rattle.dem_shape.proofs.families.motion_for.Given as goal

abbrev pub invariant-loop-motion : goal.invariant-loop-motion
invariant-loop-motion l = motion_for l.motions l.family ≡ motion_for (drop l.motion-index l.motion-items) l.family
