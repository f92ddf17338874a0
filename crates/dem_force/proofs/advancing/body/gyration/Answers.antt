use Rattle.std.proofs.Common.{◌^◌, arith}
use Rattle.std.proofs.lemmas.Int.{to_z-of_z}
use Rattle.dem_num.proofs.Sizes.{shifted_le}
use Rattle.dem_force.proofs.advancing.body.gyration.Goals as goal

pub returns-clause-size : goal.returns-clause-size
returns-clause-size c = grind (arith, to_z-of_z, shifted_le c.gyration_product.result 30 (2 ^ 89))
