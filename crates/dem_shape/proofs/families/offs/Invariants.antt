use Rattle.std.proofs.Common.{◌≡◌, ◌-◌}
use Rattle.dem_shape.specs.Offs.{offs_from}
use Rattle.dem_shape.proofs.families.offs.Given as goal

abbrev pub invariant-loop-n : goal.invariant-loop-n
invariant-loop-n l = l.bits ≡ offs_from l.off l.family (16 - l.n) l.n
