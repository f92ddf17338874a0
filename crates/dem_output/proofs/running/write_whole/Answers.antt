use Rattle.std.proofs.lemmas.Result.{err_from_is_err_and}
use Rattle.dem_output.proofs.LoopFacts.{at-first, not-begun, whole-run}
use Rattle.dem_output.proofs.running.write_whole.Goals as goal

pub returns-in_err-write_due : goal.returns-in_err-write_due
returns-in_err-write_due g c =
    let p = err_from_is_err_and c.from_residual.result c.from_residual.ensures.1 in rw (p.1, p.2)
    (not-begun _ _ _ _ _ c.requires c.state.ensures.value c.in_err-write_due.ensures.written, c.in_err-write_due.ensures.count)

pub write_on-requires-clause-same : goal.write_on-requires-clause-same
write_on-requires-clause-same g c = (at-first _ _ c.requires).0

pub write_on-requires-clause-in_range : goal.write_on-requires-clause-in_range
write_on-requires-clause-in_range g c = (at-first _ _ c.requires).2

pub returns : goal.returns
returns g c = whole-run _ _ _ _ _ _ _ _ _ _ c.requires c.state.ensures.value c.in_ok-write_due.ensures.written c.in_ok-write_due.ensures.count c.write_on.ensures
