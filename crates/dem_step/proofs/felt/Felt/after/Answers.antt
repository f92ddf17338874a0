use Rattle.std.proofs.Common.{arith}
use Rattle.dem_step.proofs.FeltFacts.{first-other, second-other, second-wall}
use Rattle.dem_step.proofs.felt.Felt.after.Goals as goal

pub returns-then-pair-spheres : goal.returns-then-pair-spheres
returns-then-pair-spheres c = λ k out.
    let second = c.with_clump.ensures k out in
    let first = c.with_clump-felt.ensures k second.0 in (
      c.touched.ensures k first.0,
      λ touches. (
        first-other c.args.shapes.now c.args.pair k c.clump_of.result c.clump_of.ensures.value first.1,
        second-other c.args.shapes.now c.args.pair k c.clump_of-then-pair-spheres.result c.clump_of-then-pair-spheres.ensures.value second.1,
      ),
    )

pub returns-else-pair-spheres : goal.returns-else-pair-spheres
returns-else-pair-spheres c = λ k out.
    let first = c.with_clump-felt.ensures k out in (
      c.touched.ensures k first.0,
      λ touches. (
        first-other c.args.shapes.now c.args.pair k c.clump_of.result c.clump_of.ensures.value first.1,
        second-wall c.args.shapes.now c.args.pair k (omega (arith, c.if-pair-spheres.false, c.spheres.ensures)),
      ),
    )
