use Rattle.std.proofs.Common.{refl, ◌∙◌, arith}
use Rattle.dem_model.specs.Motion.{IsPair}
use Rattle.dem_margin.specs.Marks.{may_touch}
use Rattle.dem_step.proofs.RoomFacts.{all-read, length-set}
use Rattle.dem_step.proofs.MarkFacts.{marked-read, marked-more}
use Rattle.dem_step.proofs.marks.mark_all.Goals as goal

pub loop-i-init : goal.loop-i-init
loop-i-init c = (refl, refl)

pub may_touch-requires-clause-pair : goal.may_touch-requires-clause-pair
may_touch-requires-clause-pair c = all-read (IsPair c.args.shapes.now) c.args.list.now.pairs c.loop-i.i c.get.result c.requires.pairs c.get.ensures

pub loop-i-preserved : goal.loop-i-preserved
loop-i-preserved c = (
  marked-more (may_touch c.args.shapes.now c.args.left c.args.centers.now) c.args.list.now.pairs c.loop-i.marks c.loop-i.i c.get.result c.may_touch.result c.loop-i.invariant.0 c.get.ensures c.may_touch.ensures
      (omega (arith, c.requires.room, c.loop-i.invariant.1)),
  length-set c.loop-i.marks c.loop-i.i c.may_touch.result ∙ c.loop-i.invariant.1,
)

pub returns-clause-marked : goal.returns-clause-marked
returns-clause-marked c = λ i p there. marked-read (may_touch c.args.shapes.now c.args.left c.args.centers.now) c.args.list.now.pairs c.loop-i.marks c.loop-i.i i p c.loop-i.invariant.0 (omega arith) there
