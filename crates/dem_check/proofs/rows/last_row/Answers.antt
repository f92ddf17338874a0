use Rattle.std.proofs.Common.{◌≡◌, arith}
use Rattle.dem_check.proofs.CutFacts.{IsCut-start, cut-newline, cut-more}
use Rattle.dem_check.proofs.rows.last_row.Goals.{then-bytes-i-eq10, else-bytes-i-eq10}
use Rattle.dem_check.proofs.rows.last_row.Goals as goal

pub loop-i-init : goal.loop-i-init
loop-i-init c = (IsCut-start c.args.bytes.now, omega arith)

pub loop-i-preserved : goal.loop-i-preserved
loop-i-preserved c =
    elim c.if-bytes-i-eq10.branch [
      | then-bytes-i-eq10 w ↦ cut-newline c.args.bytes.now c.loop-i.start c.loop-i.rows c.loop-i.i _ c.loop-i-test.true c.loop-i.invariant _ _ w.if-bytes-i-eq10.true w.start-is w.rows-is
      | else-bytes-i-eq10 w ↦ cut-more c.args.bytes.now c.loop-i.start c.loop-i.rows c.loop-i.i _ c.loop-i-test.true c.loop-i.invariant _ _ w.if-bytes-i-eq10.false w.start-is w.rows-is
    ]
