use Rattle.dem_shape.proofs.MatrixFacts.{MatricesBelow}
use Rattle.dem_shape.proofs.matrices.Matrices.fill.Given as goal

abbrev pub invariant-loop-k : goal.invariant-loop-k
invariant-loop-k l = MatricesBelow l.shapes l.bodies l.k l.self-inside.items.items
