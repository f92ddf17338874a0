use Rattle.std.specs.Prelude.{codes}
use Rattle.std.proofs.lemmas.Result.{err_from_is_err_and}
use Rattle.dem_outside.proofs.Prefixes.{AppendsPrefix-longer, PutAppends-after}
use Rattle.dem_jobs.specs.Compared.{shown}
use Rattle.dem_jobs.proofs.difference.write_rows.Goals as goal

pub returns-in_err-write_row-clause-written : goal.returns-in_err-write_row-clause-written
returns-in_err-write_row-clause-written g c =
    let p = err_from_is_err_and c.from_residual.result c.from_residual.ensures.1 in rw (p.1) (AppendsPrefix-longer _ _ (shown (codes "kept") c.args.kept.now) (shown (codes "found") c.args.found.now) (c.in_err-write_row.ensures.written))

pub returns-clause-written : goal.returns-clause-written
returns-clause-written g c = PutAppends-after _ _ _ c.write_row-2.result (shown (codes "kept") c.args.kept.now) (shown (codes "found") c.args.found.now) (c.in_ok-write_row.ensures.written) c.write_row-2.ensures.written
