use Rattle.dem_shape.proofs.PutFacts.{IsPut}
use Rattle.dem_shape.proofs.centers.Centers.put.Given as goal

abbrev pub invariant-loop-s : goal.invariant-loop-s
invariant-loop-s l = IsPut l.shapes l.clump l.body l.fn.self l.s l.self-inside.items.items
