use Rattle.std.proofs.lemmas.Result.{err_from_is_err_and}
use Rattle.dem_outside.proofs.Prefixes.{AppendsPrefix-longer, AppendsPrefix-after}
use Rattle.dem_model.specs.Frames.{last_text}
use Rattle.dem_jobs.specs.Summaries.{touch_row}
use Rattle.dem_jobs.proofs.made_rows.write_last_rows.Goals as goal

pub returns-in_err-put-clause-written : goal.returns-in_err-put-clause-written
returns-in_err-put-clause-written g c =
    let p = err_from_is_err_and c.from_residual.result c.from_residual.ensures.1 in
    let x = c.args.summary.now in
    rw (p.1) (AppendsPrefix-longer _ _ (touch_row x.touching) (last_text x.last) (rw (c.as_slice.ensures.value, c.touch_line.ensures) at c.in_err-put.ensures.appended))

pub returns-in-Err-clause-written : goal.returns-in-Err-clause-written
returns-in-Err-clause-written g c =
    let x = c.args.summary.now in
    AppendsPrefix-after _ _ _ (touch_row x.touching) (last_text x.last) (rw (c.as_slice.ensures.value, c.touch_line.ensures) at c.in_ok-put.ensures.appended) c.in-Err.ensures.written
