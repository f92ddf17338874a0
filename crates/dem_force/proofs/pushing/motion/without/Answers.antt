use Rattle.std.proofs.Common.{◌+◌, ◌^◌, arith}
use Rattle.std.proofs.lemmas.Int.{to_z-of_z}
use Rattle.dem_num.specs.Vectors.{widened, Within, difference_of}
use Rattle.dem_num.proofs.VectorSizes.{difference_within, within_wider}
use Rattle.dem_force.proofs.pushing.motion.without.Goals as goal

pub sub3_short-requires-clause-second : goal.sub3_short-requires-clause-second
sub3_short-requires-clause-second c = within_wider (widened c.vector_along.result) _ (2 ^ 61) c.vector_along.ensures.size (grind (arith, to_z-of_z))

pub returns-clause-size : goal.returns-clause-size
returns-clause-size c =
    let along : Within (widened c.vector_along.result) (2 ^ 50) =
    within_wider (widened c.vector_along.result) _ (2 ^ 50) c.vector_along.ensures.size (grind (arith, to_z-of_z)) in
    rw c.sub3_short.ensures
    (within_wider (difference_of (widened c.args.u) (widened c.vector_along.result)) (2 ^ 48 + 2 ^ 50) (2 ^ 51)
    (difference_within (widened c.args.u) (widened c.vector_along.result) (2 ^ 48) (2 ^ 50) c.requires.small along)
    (omega arith))
