use Rattle.std.proofs.Common.{◌^◌, arith}
use Rattle.std.proofs.lemmas.Int.{to_z-of_z}
use Rattle.dem_num.proofs.Sizes.{shifted_le}
use Rattle.dem_force.proofs.pushing.motion.swept_part.Goals as goal

pub returns-clause-size : goal.returns-clause-size
returns-clause-size c = grind (arith, to_z-of_z, shifted_le c.crossed.result 14 (2 ^ 46))
