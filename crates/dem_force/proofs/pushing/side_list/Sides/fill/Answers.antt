use Rattle.std.proofs.Common.{length, ap, ◌∙◌, arith}
use Rattle.dem_force.proofs.SideFacts.{AreMade-more}
use Rattle.dem_force.proofs.pushing.side_list.Sides.fill.Goals as goal

pub loop-s-init : goal.loop-s-init
loop-s-init c = record { count = ap length c.self.view_is ∙ c.requires.made; each = λ j below. absurd (omega arith); ranges = λ j below. absurd (omega arith) }

pub loop-s-preserved : goal.loop-s-preserved
loop-s-preserved c = AreMade-more _ _ _ _ _ (omega arith) c.side_by.ensures.value c.side_by.ensures.ranges c.loop-s.invariant

pub returns : goal.returns
returns c = record {
  count = c.loop-s.invariant.count;
  each = λ i lt. c.loop-s.invariant.each i (omega arith);
  ranges = λ i lt. c.loop-s.invariant.ranges i (omega arith);
}
