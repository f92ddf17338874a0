use Rattle.std.proofs.Common.{◌≡◌, true, false, sym, ap, ◌∙◌, arith}
use Rattle.std.specs.Prelude.{is_some}
use Rattle.dem_model.specs.Centers.{touch_of}
use Rattle.dem_jobs.proofs.SummaryFacts.{count-more}
use Rattle.dem_jobs.proofs.summary.count_in.Goals.{then-is_some, else-is_some}
use Rattle.dem_jobs.proofs.summary.count_in.Goals as goal

pub loop-i-preserved : goal.loop-i-preserved
loop-i-preserved g c =
    let s = c.args.shapes.now in
    let centers = c.args.centers.now in
    let ps = c.args.list.now.pairs in
    let told : is_some (touch_of s centers c.get.result) ≡ c.is_some.result = ap is_some (sym c.touch.ensures.value) ∙ sym c.is_some.ensures in
    elim c.if-is_some.branch [
      | then-is_some w ↦ (
        count-more s centers ps c.loop-i.i c.get.result c.loop-i.count c.if-is_some.count true c.get.ensures (told ∙ w.if-is_some.true) c.loop-i.invariant.0 (omega (arith, w.count-is)),
        omega (arith, w.count-is, c.loop-i.invariant.1),
      )
      | else-is_some w ↦ (
        count-more s centers ps c.loop-i.i c.get.result c.loop-i.count c.if-is_some.count false c.get.ensures (told ∙ w.if-is_some.false) c.loop-i.invariant.0 (omega (arith, w.count-is)),
        omega (arith, w.count-is, c.loop-i.invariant.1),
      )
    ]
