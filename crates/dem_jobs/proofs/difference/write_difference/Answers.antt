use Rattle.std.proofs.Common.{◌++◌}
use Rattle.std.specs.Prelude.{codes}
use Rattle.std.proofs.lemmas.Result.{err_from_is_err_and}
use Rattle.dem_outside.proofs.Prefixes.{AppendsPrefix-longer, PutAppends-after}
use Rattle.dem_jobs.specs.Compared.{shown, differs_text}
use Rattle.dem_jobs.proofs.difference.write_difference.Goals as goal

pub returns-in_err-put-clause-written : goal.returns-in_err-put-clause-written
returns-in_err-put-clause-written g c =
    let p = err_from_is_err_and c.from_residual.result c.from_residual.ensures.1 in rw (p.1) (AppendsPrefix-longer _ _ (differs_text c.args.row) (shown (codes "kept") c.args.kept.now ++ shown (codes "found") c.args.found.now) (rw (c.as_slice.ensures.value, c.differs_line.ensures) at c.in_err-put.ensures.appended))

pub returns-clause-written : goal.returns-clause-written
returns-clause-written g c = PutAppends-after _ _ _ c.write_rows.result (differs_text c.args.row) (shown (codes "kept") c.args.kept.now ++ shown (codes "found") c.args.found.now) (rw (c.as_slice.ensures.value, c.differs_line.ensures) at c.in_ok-put.ensures.appended) c.write_rows.ensures.written
