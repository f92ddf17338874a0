use Rattle.dem_shape.proofs.FillFacts.{IsFilled}
use Rattle.dem_shape.proofs.centers.Centers.fill.Given as goal

abbrev pub invariant-loop-s : goal.invariant-loop-s
invariant-loop-s l = IsFilled l.shapes l.bodies l.s l.self-inside.items.items l.pose
