use Rattle.std.proofs.Common.{◌^◌, ◌-◌, arith, sym, ap, ◌∙◌, subst}
use Rattle.dem_num.specs.declared.vector.Wide3.{Wide3}
use Rattle.dem_num.specs.Vectors.{widened, opposed, Within}
use Rattle.dem_num.proofs.VectorSizes.{opposed_within, within_wider}
use Rattle.dem_facet.proofs.touching.facing.Goals as goal

pub narrow3-requires : goal.narrow3-requires
narrow3-requires c =
    subst (λ (w : Wide3). Within w (2 ^ 63 - 1)) (sym (c.negated3.ensures ∙ ap (λ (w : Wide3). opposed w) c.widen.ensures))
    (within_wider (opposed (widened c.args.u)) (2 ^ 30) (2 ^ 63 - 1) (opposed_within (widened c.args.u) (2 ^ 30) c.requires.normal_small) (omega arith))

pub returns-else-gap-ge0-clause-size : goal.returns-else-gap-ge0-clause-size
returns-else-gap-ge0-clause-size c =
    subst (λ (w : Wide3). Within w (2 ^ 30)) (sym (c.narrow3.ensures.same ∙ c.negated3.ensures ∙ ap (λ (w : Wide3). opposed w) c.widen.ensures))
    (opposed_within (widened c.args.u) (2 ^ 30) c.requires.normal_small)
