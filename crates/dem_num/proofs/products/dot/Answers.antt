use Rattle.std.proofs.Common.{arith}
use Rattle.std.proofs.lemmas.Int.{to_z-of_z}
use Rattle.dem_num.specs.Vectors.{dot_bound_of}
use Rattle.dem_num.proofs.products.dot.Goals as goal

pub returns-clause-size : goal.returns-clause-size
unfolding dot_bound_of
returns-clause-size c = grind (arith, to_z-of_z, c.add-2.ensures.size, c.add.ensures.size)
