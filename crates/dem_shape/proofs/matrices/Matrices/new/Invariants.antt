use Rattle.std.proofs.Common.{◌≡◌, length}
use Rattle.std.specs.Prelude.{All}
use Rattle.dem_shape.specs.Matrices.{IsTurn}
use Rattle.dem_shape.proofs.matrices.Matrices.new.Given as goal

abbrev pub invariant-loop : goal.invariant-loop
invariant-loop l = (length l.items.items ≡ l.counter) × All IsTurn l.items.items
