use Rattle.std.proofs.Common.{arith, ◌^◌}
use Rattle.std.proofs.lemmas.Int.{to_z-of_z}
use Rattle.dem_num.specs.Vectors.{widened, Within}
use Rattle.dem_num.proofs.VectorSizes.{dot_le}
use Rattle.dem_turn.proofs.turning.along.Goals as goal

pub returns-clause-size : goal.returns-clause-size
returns-clause-size c = grind (arith, to_z-of_z, dot_le (widened c.args.row) c.args.o (2 ^ 30) (2 ^ 28) c.requires.entries c.requires.vector)

pub returns-clause-offset : goal.returns-clause-offset
returns-clause-offset c = λ (h : Within c.args.o (2 ^ 26)). grind (arith, to_z-of_z, dot_le (widened c.args.row) c.args.o (2 ^ 30) (2 ^ 26) c.requires.entries h)
