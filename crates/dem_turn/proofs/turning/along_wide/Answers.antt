use Rattle.std.proofs.Common.{arith, ◌^◌}
use Rattle.std.proofs.lemmas.Int.{to_z-of_z}
use Rattle.dem_num.specs.Vectors.{widened}
use Rattle.dem_num.proofs.VectorSizes.{dot_le}
use Rattle.dem_turn.proofs.turning.along_wide.Goals as goal

pub returns-clause-size : goal.returns-clause-size
returns-clause-size c = grind (arith, to_z-of_z, dot_le (widened c.args.column) c.args.t (2 ^ 30) (2 ^ 90) c.requires.entries c.requires.torque)
