use Rattle.std.proofs.Common.{arith}
use Rattle.std.proofs.lemmas.Int.{to_z-of_z}
use Rattle.dem_num.specs.Numbers.{shifted}
use Rattle.dem_num.proofs.Sizes.{shifted-size}
use Rattle.dem_num.proofs.small.sh_short.Goals as goal

pub returns-clause-size : goal.returns-clause-size
unfolding shifted
returns-clause-size c = grind (arith, to_z-of_z, shifted-size c.args.x c.args.k)
