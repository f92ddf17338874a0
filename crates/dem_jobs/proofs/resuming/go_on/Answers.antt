use Rattle.std.proofs.Common.{refl}
use Rattle.std.proofs.lemmas.Result.{err_from_is_err_and}
use Rattle.dem_outside.specs.Change.{change}
use Rattle.dem_jobs.specs.Resumed.{resumed}
use Rattle.dem_jobs.proofs.JobFacts.{begins-nothing}
use Rattle.dem_jobs.proofs.ResumedFacts.{frame-bad, rest-stopped, rest-written}
use Rattle.dem_jobs.proofs.resuming.go_on.Goals as goal

pub returns-in_err-shapes : goal.returns-in_err-shapes
returns-in_err-shapes g c =
    let p = err_from_is_err_and c.from_residual.result c.from_residual.ensures.1 in
    let out = change g.K.Sink.held g.K.Sink.faults c.args.out.now c.args.out.now in
    rw (p.1, p.2) (λ note. (begins-nothing (resumed c.args.rows.now c.args.scene.now) out.before note, refl, refl))

pub returns-in_err-state : goal.returns-in_err-state
returns-in_err-state g c =
    let p = err_from_is_err_and c.from_residual-in_err-state.result c.from_residual-in_err-state.ensures.1 in
    let out = change g.K.Sink.held g.K.Sink.faults c.args.out.now c.args.out.now in
    rw (p.1, p.2) (λ note. frame-bad c.args.rows.now c.args.scene.now out.before note c.in_err-state.field-0.0 (rw c.in_ok-shapes.ensures at c.in_err-state.ensures.value))

pub returns-in_err-rest : goal.returns-in_err-rest
returns-in_err-rest g c =
    let p = err_from_is_err_and c.from_residual-in_err-rest.result c.from_residual-in_err-rest.ensures.1 in
    let out = change g.K.Sink.held g.K.Sink.faults c.args.out.now c.rest.new.out in
    rw (p.1, p.2)
    (λ note. rest-stopped c.args.rows.now c.args.scene.now c.in_ok-state.state (rw c.in_ok-shapes.ensures at c.in_ok-state.ensures.value) out note c.in_err-rest.field-0.0 c.in_err-rest.ensures)

pub returns : goal.returns
returns g c =
    let out = change g.K.Sink.held g.K.Sink.faults c.args.out.now c.rest.new.out in
    rw c.from.ensures
    (λ note. rest-written c.args.rows.now c.args.scene.now c.in_ok-state.state (rw c.in_ok-shapes.ensures at c.in_ok-state.ensures.value) out note c.in_ok-rest.field-0 c.in_ok-rest.ensures)
