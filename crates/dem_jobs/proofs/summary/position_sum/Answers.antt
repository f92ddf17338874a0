use Rattle.std.proofs.Common.{refl}
use Rattle.dem_jobs.proofs.SummaryFacts.{place-small, place-fits, sums-none, sums-more, sums-small, sums-all}
use Rattle.dem_jobs.proofs.summary.position_sum.Goals as goal

pub loop-body-init : goal.loop-body-init
loop-body-init c = sums-none c.args.bodies.now _ refl

pub add3_short-sum-requires-clause-first : goal.add3_short-sum-requires-clause-first
add3_short-sum-requires-clause-first c =
    sums-small c.args.shapes.now c.args.bodies.now c.loop-body.body-index c.loop-body.sum c.scene-scene.ensures.sound c.requires c.loop-body-test.true c.loop-body.invariant

pub add3_short-sum-requires-clause-second : goal.add3_short-sum-requires-clause-second
add3_short-sum-requires-clause-second c =
    place-fits c.args.shapes.now c.args.bodies.now c.loop-body.body-index _ c.scene-scene.ensures.sound c.requires c.loop-body-test.true

pub loop-body-preserved : goal.loop-body-preserved
loop-body-preserved c =
    sums-more c.args.bodies.now c.loop-body.body-index _ c.loop-body.sum c.add3_short-sum.result c.loop-body-test.true
    (place-small c.args.shapes.now c.args.bodies.now c.loop-body.body-index _ c.scene-scene.ensures.sound c.requires c.loop-body-test.true) c.add3_short-sum.ensures c.loop-body.invariant

pub returns : goal.returns
returns c = sums-all c.args.bodies.now c.loop-body.body-index c.loop-body.sum c.loop-body-test.false c.loop-body.invariant
