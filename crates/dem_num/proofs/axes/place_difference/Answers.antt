use Rattle.std.proofs.Common.{◌≡◌, ◌^◌, sym, subst}
use Rattle.dem_num.specs.Vectors.{widened, difference_of, Within}
use Rattle.dem_num.proofs.VectorSizes.{difference_within}
use Rattle.dem_num.proofs.axes.place_difference.Goals as goal

pub returns-clause-size : goal.returns-clause-size
returns-clause-size c =
    let e : c.sub3.result ≡ difference_of (widened c.args.a) (widened c.args.b) = cc in
    subst (λ v. Within v (2 ^ 37)) (sym e) (difference_within (widened c.args.a) (widened c.args.b) (2 ^ 36) (2 ^ 36) c.requires.first c.requires.second)
