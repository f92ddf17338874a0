use Rattle.std.proofs.Common.{◌≡◌, ◌*◌, ◌^◌, ◌≤◌, arith, ap, ◌∙◌, unsigned_abs}
use Rattle.std.proofs.lemmas.Int.{to_z-of_z}
use Rattle.dem_num.specs.declared.vector.Wide3.{Wide3}
use Rattle.dem_num.specs.Vectors.{widened, dot_of}
use Rattle.dem_num.proofs.Sizes.{shifted_le}
use Rattle.dem_num.proofs.VectorSizes.{dot_le}
use Rattle.dem_facet.proofs.touching.gap.Goals as goal

pub narrow-requires : goal.narrow-requires
narrow-requires c =
    let most : unsigned_abs (dot_of (widened c.args.u) (widened c.args.d)) ≤ 3 * (2 ^ 30 * 2 ^ 27) =
    dot_le (widened c.args.u) (widened c.args.d) (2 ^ 30) (2 ^ 27) c.requires.normal_small c.requires.close in
    let same : c.dot.result ≡ dot_of (widened c.args.u) (widened c.args.d) = c.dot.ensures.value ∙ ap (λ (w : Wide3). dot_of (widened c.args.u) w) c.widen.ensures in
    grind (arith, to_z-of_z, shifted_le c.dot.result 30 (2 ^ 29))

pub returns-clause-size : goal.returns-clause-size
returns-clause-size c =
    let most : unsigned_abs (dot_of (widened c.args.u) (widened c.args.d)) ≤ 3 * (2 ^ 30 * 2 ^ 27) =
    dot_le (widened c.args.u) (widened c.args.d) (2 ^ 30) (2 ^ 27) c.requires.normal_small c.requires.close in
    let same : c.dot.result ≡ dot_of (widened c.args.u) (widened c.args.d) = c.dot.ensures.value ∙ ap (λ (w : Wide3). dot_of (widened c.args.u) w) c.widen.ensures in
    grind (arith, to_z-of_z, shifted_le c.dot.result 30 (2 ^ 29))
