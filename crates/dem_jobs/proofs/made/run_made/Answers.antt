use Rattle.std.proofs.Common.{refl}
use Rattle.std.proofs.lemmas.Result.{err_from_is_err_and}
use Rattle.dem_outside.specs.Change.{change}
use Rattle.dem_jobs.specs.Summaries.{gen_of}
use Rattle.dem_jobs.proofs.JobFacts.{begins-nothing}
use Rattle.dem_jobs.proofs.SummaryFacts.{made-refused, made-written, made-cut}
use Rattle.dem_jobs.proofs.made.run_made.Goals as goal

pub returns-in_err-shapes : goal.returns-in_err-shapes
returns-in_err-shapes g c =
    let p = err_from_is_err_and c.from_residual.result c.from_residual.ensures.1 in
    let out = change g.K.Sink.held g.K.Sink.faults c.args.out.now c.args.out.now in
    rw (p.1, p.2) (λ note. (begins-nothing (gen_of c.args.order.now c.args.scene.now) out.before note, refl, refl))

pub returns-in_err-grid : goal.returns-in_err-grid
returns-in_err-grid g c =
    let p = err_from_is_err_and c.from_residual-in_err-grid.result c.from_residual-in_err-grid.ensures.1 in
    let out = change g.K.Sink.held g.K.Sink.faults c.args.out.now c.args.out.now in
    let e = c.in_err-grid.ensures in
    rw (← c.order.view_is, p.1, p.2)
    (λ note. made-refused _ c.args.scene.now c.in_ok-shapes.shapes c.in_ok-shapes.ensures c.in_err-grid.field-0.0 out.before note e.refused e.many)

pub returns-in_err-summary : goal.returns-in_err-summary
returns-in_err-summary g c =
    let p = err_from_is_err_and c.from_residual-in_err-summary.result c.from_residual-in_err-summary.ensures.1 in
    let out = change g.K.Sink.held g.K.Sink.faults c.args.out.now c.args.out.now in
    rw (p.1, p.2) (λ note. (begins-nothing (gen_of c.args.order.now c.args.scene.now) out.before note, refl, refl))

pub returns-in_err-write_summary : goal.returns-in_err-write_summary
returns-in_err-write_summary g c =
    let p = err_from_is_err_and c.from_residual-in_err-write_summary.result c.from_residual-in_err-write_summary.ensures.1 in
    let out = change g.K.Sink.held g.K.Sink.faults c.args.out.now c.write_summary.new.out in
    let e = c.in_ok-grid.ensures in
    let w = c.in_err-write_summary.ensures in
    rw (← c.order.view_is, p.1, p.2)
    (λ note. made-cut _ c.args.scene.now c.in_ok-shapes.shapes c.in_ok-shapes.ensures c.in_ok-grid.grid e.grid e.fits out note c.in_ok-summary.summary c.in_ok-summary.ensures w.written w.count)

pub returns : goal.returns
returns g c =
    let out = change g.K.Sink.held g.K.Sink.faults c.args.out.now c.write_summary.new.out in
    let e = c.in_ok-grid.ensures in
    let w = c.in_ok-write_summary.ensures in
    rw (← c.order.view_is)
    (λ note. made-written _ c.args.scene.now c.in_ok-shapes.shapes c.in_ok-shapes.ensures c.in_ok-grid.grid e.grid e.fits out note c.in_ok-summary.summary c.in_ok-summary.ensures c.from.result c.from.ensures w.written w.count)
