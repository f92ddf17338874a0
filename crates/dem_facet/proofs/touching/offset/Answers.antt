use Rattle.std.proofs.Common.{◌^◌, ◌+◌, arith, sym, ap, ◌∙◌, subst}
use Rattle.dem_num.specs.declared.vector.Wide3.{Wide3}
use Rattle.dem_num.specs.Vectors.{widened, difference_of, Within}
use Rattle.dem_num.proofs.VectorSizes.{difference_within, within_wider}
use Rattle.dem_facet.proofs.touching.offset.Goals as goal

pub returns-clause-size : goal.returns-clause-size
returns-clause-size c =
    subst (λ (w : Wide3). Within w (2 ^ 38)) (sym (c.sub3.ensures ∙ ap (λ (w : Wide3). difference_of w c.args.p) c.widen.ensures))
    (within_wider (difference_of (widened c.args.s) c.args.p) (2 ^ 36 + 2 ^ 37) (2 ^ 38)
    (difference_within (widened c.args.s) c.args.p (2 ^ 36) (2 ^ 37) c.requires.center_small c.requires.point_small)
    (omega arith))
