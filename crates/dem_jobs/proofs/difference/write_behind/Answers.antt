use Rattle.std.proofs.Common.{◌++◌}
use Rattle.std.specs.Prelude.{codes}
use Rattle.std.proofs.lemmas.Result.{err_from_is_err_and}
use Rattle.dem_outside.proofs.Prefixes.{AppendsPrefix-longer, PutAppends-after}
use Rattle.dem_jobs.proofs.difference.write_behind.Goals as goal

pub returns-in_err-put-clause-written : goal.returns-in_err-put-clause-written
returns-in_err-put-clause-written g c =
    let p = err_from_is_err_and c.from_residual.result c.from_residual.ensures.1 in rw (p.1) (AppendsPrefix-longer _ _ (codes ",") (c.args.text.now ++ codes "\n") (c.in_err-put.ensures.appended))

pub returns-clause-written : goal.returns-clause-written
returns-clause-written g c = PutAppends-after _ _ _ c.write_line.result (codes ",") (c.args.text.now ++ codes "\n") (c.in_ok-put.ensures.appended) c.write_line.ensures.written
