use Rattle.std.proofs.Common.{◌++◌}
use Rattle.std.proofs.lemmas.Result.{err_from_is_err_and}
use Rattle.dem_num.specs.Vectors.{widened}
use Rattle.dem_outside.proofs.Prefixes.{AppendsPrefix-longer, PutAppends-after}
use Rattle.dem_model.specs.Frames.{last_text}
use Rattle.dem_jobs.specs.Summaries.{sum_row, touch_row}
use Rattle.dem_jobs.proofs.made_rows.write_state_rows.Goals as goal

pub returns-in_err-put-clause-written : goal.returns-in_err-put-clause-written
returns-in_err-put-clause-written g c =
    let p = err_from_is_err_and c.from_residual.result c.from_residual.ensures.1 in
    let x = c.args.summary.now in
    rw (p.1) (AppendsPrefix-longer _ _ (sum_row (widened x.sum)) (touch_row x.touching ++ last_text x.last) (rw (c.as_slice.ensures.value, c.sum_line.ensures) at c.in_err-put.ensures.appended))

pub returns-clause-written : goal.returns-clause-written
returns-clause-written g c =
    let x = c.args.summary.now in
    PutAppends-after _ _ _ c.write_last_rows.result (sum_row (widened x.sum)) (touch_row x.touching ++ last_text x.last) (rw (c.as_slice.ensures.value, c.sum_line.ensures) at c.in_ok-put.ensures.appended) c.write_last_rows.ensures.written
