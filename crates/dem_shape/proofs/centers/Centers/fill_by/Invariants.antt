use Rattle.dem_shape.proofs.FillFacts.{AreFilled}
use Rattle.dem_shape.proofs.centers.Centers.fill_by.Given as goal

abbrev pub invariant-loop-s : goal.invariant-loop-s
invariant-loop-s l = AreFilled l.shapes l.bodies l.s l.self-inside.items.items
