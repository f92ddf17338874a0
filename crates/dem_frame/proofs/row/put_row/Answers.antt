use Rattle.std.proofs.Common.{get_or, pos, FitsSigned, w64, arith, rules}
use Rattle.std.proofs.lemmas.Int.{to_z-of_z}
use Rattle.dem_frame.proofs.RowFacts.{Builds-more, Builds-all}
use Rattle.dem_frame.proofs.row.put_row.Goals as goal

pub loop-number-preserved : goal.loop-number-preserved
loop-number-preserved g c =
    let fits : FitsSigned w64 (get_or c.args.numbers.now c.loop-number.number-index (pos 0)) = search rules in
    (Builds-more _ _ _ c.args.numbers.now c.loop-number.number-index (pos 0) c.loop-number-test.true c.loop-number.invariant.0 (simp to_z-of_z at c.add_number.ensures.text), omega arith)

pub returns-clause-written : goal.returns-clause-written
returns-clause-written g c =
    rw (← Builds-all c.loop-number.row.items c.args.name.now c.args.numbers.now c.loop-number.number-index (omega arith) c.loop-number.invariant.0) c.put.ensures.written
