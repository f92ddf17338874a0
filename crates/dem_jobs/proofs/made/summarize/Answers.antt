use Rattle.std.proofs.Common.{refl}
use Rattle.std.proofs.lemmas.Result.{err_from_is_err_and}
use Rattle.dem_outside.specs.Change.{change}
use Rattle.dem_jobs.specs.Summaries.{gen_verdict}
use Rattle.dem_jobs.proofs.JobFacts.{begins-nothing}
use Rattle.dem_jobs.proofs.SummaryFacts.{gen-made}
use Rattle.dem_jobs.proofs.made.summarize.Goals as goal

pub returns-in_err-scene : goal.returns-in_err-scene
returns-in_err-scene g c =
    let p = err_from_is_err_and c.from_residual.result c.from_residual.ensures.1 in
    let out = change g.K.Sink.held g.K.Sink.faults c.args.out.now c.args.out.now in
    rw (p.1, p.2) (λ note. (begins-nothing (gen_verdict c.args.order.now) out.before note, refl, refl))

pub returns : goal.returns
returns g c = rw (gen-made c.args.order.now c.in_ok-scene.scene (rw (← c.order.view_is) c.in_ok-scene.ensures)) c.run_made.ensures
