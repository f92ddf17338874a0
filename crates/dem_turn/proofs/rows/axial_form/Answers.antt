use Rattle.std.proofs.Common.{arith}
use Rattle.std.proofs.lemmas.Int.{to_z-of_z}
use Rattle.dem_turn.proofs.rows.axial_form.Goals as goal

pub sub-requires-2 : goal.sub-requires-2
sub-requires-2 c = grind (arith, to_z-of_z)

pub returns-clause-size : goal.returns-clause-size
returns-clause-size c = grind (arith, to_z-of_z)
