use Rattle.std.proofs.Common.{◌≡◌, length, ap, ◌∙◌, arith}
use Rattle.std.specs.List.{range_with_len, sum_by}
use Rattle.dem_model.specs.SceneValue.{SceneValue}
use Rattle.dem_model.specs.Look.{motion_of, kinetic_of}
use Rattle.dem_look.proofs.MotionFacts.{sum-more}
use Rattle.dem_look.proofs.motion.kinetic.Goals as goal

pub loop-clump-preserved : goal.loop-clump-preserved
loop-clump-preserved c = (
  sum-more (motion_of c.args.shapes.now c.args.state.now) c.loop-clump.clump c.loop-clump.sum c.motion-sum.result c.loop-clump.invariant.0 c.motion-sum.ensures.value,
  omega (arith, c.loop-clump.invariant.1, c.motion-sum.ensures.size),
)

pub returns-clause-value : goal.returns-clause-value
unfolding kinetic_of
returns-clause-value c =
    let there : c.len-clump-end.result ≡ length c.args.shapes.now.clumps = c.len-clump-end.ensures ∙ ap (λ (s : SceneValue). length s.clumps) (c.behind-shapes.view_is ∙ c.scene.ensures.value) in
    let all : c.loop-clump.clump ≡ length c.args.shapes.now.clumps = omega (arith, there, c.loop-clump-test.false, c.loop-clump.auto.clump-end) in
    c.loop-clump.invariant.0 ∙ ap (λ n. sum_by (motion_of c.args.shapes.now c.args.state.now) (range_with_len 0 n)) all
