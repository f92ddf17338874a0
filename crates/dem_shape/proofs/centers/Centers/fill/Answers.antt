use Rattle.std.proofs.Common.{refl, ap, ◌∙◌, length, arith}
use Rattle.dem_shape.proofs.FillFacts.{IsFilled-more, AreFilled-all}
use Rattle.dem_shape.proofs.PoseFacts.{pose_own}
use Rattle.dem_shape.proofs.centers.Centers.fill.Goals as goal
use Rattle.dem_shape.proofs.centers.Centers.fill.Goals.{then-is_zero, else-is_zero}

pub new-pose-requires-clause-there : goal.new-pose-requires-clause-there
new-pose-requires-clause-there c = omega (arith, c.scene-scene.ensures.sound.clump_count.low_le)

pub loop-s-init : goal.loop-s-init
loop-s-init c = record { filled = record { size = ap length c.self.view_is ∙ c.requires.made; done = refl }; pose_is = pose_own _ _ _ _ c.new-pose.ensures }

pub loop-s-preserved : goal.loop-s-preserved
loop-s-preserved c = elim c.if-is_zero.branch [
  | then-is_zero w ↦ rw (w.pose-is, w.self-inside-is) (IsFilled-more _ _ _ _ _ _ _ c.loop-s.invariant (omega arith) w.own_place.ensures c.loop-s.invariant.pose_is)
  | else-is_zero w ↦ rw (w.pose-is, w.self-inside-is) (IsFilled-more _ _ _ _ _ _ _ c.loop-s.invariant (omega arith) w.center.ensures (pose_own _ _ _ _ w.for_sphere-pose.ensures))
]

pub returns : goal.returns
returns c = AreFilled-all _ _ _ _ c.loop-s.invariant.filled (omega arith)
