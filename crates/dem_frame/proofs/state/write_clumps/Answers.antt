use Rattle.std.proofs.Common.{◌∙◌, arith}
use Rattle.std.proofs.lemmas.Result.{err_from_is_err_and}
use Rattle.dem_frame.proofs.StateFacts.{clumps-more, clumps-failed, clumps-all}
use Rattle.dem_frame.proofs.state.write_clumps.Goals as goal

pub returns-in_err-write_clump-clause-written : goal.returns-in_err-write_clump-clause-written
returns-in_err-write_clump-clause-written g c =
    let p = err_from_is_err_and c.from_residual.result c.from_residual.ensures.1 in rw (p.1)
    (clumps-failed _ _ _ c.args.bodies.now c.loop-b.b-index c.loop-b.i _ c.loop-b-test.true c.loop-b.invariant.0 c.loop-b.invariant.1 c.in_err-write_clump.ensures.written)

pub loop-b-preserved : goal.loop-b-preserved
loop-b-preserved g c = (
  omega arith,
  clumps-more _ _ _ c.args.bodies.now c.loop-b.b-index c.loop-b.i _ c.loop-b-test.true c.loop-b.invariant.0 c.loop-b.invariant.1 c.in_ok-write_clump.ensures.written,
  c.in_ok-write_clump.ensures.count ∙ c.loop-b.invariant.2,
)

pub returns-clause-written : goal.returns-clause-written
returns-clause-written g c = clumps-all _ _ c.args.bodies.now c.loop-b.b-index (omega arith) c.loop-b.invariant.1
