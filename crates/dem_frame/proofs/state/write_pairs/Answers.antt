use Rattle.std.proofs.Common.{◌∙◌, arith}
use Rattle.std.proofs.lemmas.Result.{err_from_is_err_and}
use Rattle.dem_frame.proofs.StateFacts.{pairs-more, pairs-failed, pairs-all}
use Rattle.dem_frame.proofs.state.write_pairs.Goals as goal

pub returns-in_err-write_pair-clause-written : goal.returns-in_err-write_pair-clause-written
returns-in_err-write_pair-clause-written g c =
    let p = err_from_is_err_and c.from_residual.result c.from_residual.ensures.1 in rw (p.1)
    (pairs-failed _ _ _ c.args.held.now c.loop-entry.entry-index _ c.loop-entry-test.true c.loop-entry.invariant.0 c.in_err-write_pair.ensures.written)

pub loop-entry-preserved : goal.loop-entry-preserved
loop-entry-preserved g c = (
  pairs-more _ _ _ c.args.held.now c.loop-entry.entry-index _ c.loop-entry-test.true c.loop-entry.invariant.0 c.in_ok-write_pair.ensures.written,
  c.in_ok-write_pair.ensures.count ∙ c.loop-entry.invariant.1,
)

pub returns-clause-written : goal.returns-clause-written
returns-clause-written g c = pairs-all _ _ c.args.held.now c.loop-entry.entry-index (omega arith) c.loop-entry.invariant.0
