use Rattle.std.proofs.Common.{arith}
use Rattle.std.proofs.lemmas.Int.{to_z-of_z}
use Rattle.dem_num.specs.Rotations.{matrix_of}
use Rattle.dem_turn.proofs.rows.row_y.Goals as goal

pub returns-clause-value : goal.returns-clause-value
unfolding matrix_of
returns-clause-value c = grind (arith, to_z-of_z)
