use Rattle.std.proofs.Common.{take, refl}
use Rattle.std.proofs.lemmas.Result.{err_from_is_err_and}
use Rattle.dem_outside.specs.Change.{change}
use Rattle.dem_jobs.specs.Compared.{frames_mark, compared}
use Rattle.dem_jobs.specs.Marks.{by_mark, mark_in, behind}
use Rattle.dem_jobs.specs.Verdicts.{no_frames_text}
use Rattle.dem_jobs.proofs.JobFacts.{begins-nothing}
use Rattle.dem_jobs.proofs.InputFacts.{scene-bad}
use Rattle.dem_jobs.proofs.ComparedFacts.{judged, judged-cut}
use Rattle.dem_jobs.proofs.comparison.judge.Goals as goal

pub returns-in_err-scene : goal.returns-in_err-scene
returns-in_err-scene g c =
    let p = err_from_is_err_and c.from_residual.result c.from_residual.ensures.1 in
    let out = change g.K.Sink.held g.K.Sink.faults c.args.out.now c.args.out.now in
    let input = c.args.input.now in
    rw (← c.in-Some.ensures.place, p.1, p.2)
    (λ note. scene-bad (compared (behind frames_mark input c.in-Some.at)) (take c.in-Some.at input) out.before note c.in_err-scene.field-0.0 c.in_err-scene.ensures)

pub returns-in_err-verdict : goal.returns-in_err-verdict
returns-in_err-verdict g c =
    let p = err_from_is_err_and c.from_residual-in_err-verdict.result c.from_residual-in_err-verdict.ensures.1 in
    let out = change g.K.Sink.held g.K.Sink.faults c.args.out.now c.args.out.now in
    let input = c.args.input.now in
    rw (p.1, p.2) (λ note. (begins-nothing (by_mark frames_mark no_frames_text (λ text rows. compared rows) input (mark_in frames_mark input)) out.before note, refl, refl))

pub returns-in_err-write_verdict : goal.returns-in_err-write_verdict
returns-in_err-write_verdict g c =
    let p = err_from_is_err_and c.from_residual-in_err-write_verdict.result c.from_residual-in_err-write_verdict.ensures.1 in
    let out = change g.K.Sink.held g.K.Sink.faults c.args.out.now c.write_verdict.new.out in
    let input = c.args.input.now in
    let checks = rw c.behind.ensures at c.in_ok-verdict.ensures in
    let e = c.in_err-write_verdict.ensures in
    rw (← c.in-Some.ensures.place, p.1, p.2)
    (λ note. judged-cut (take c.in-Some.at input) (behind frames_mark input c.in-Some.at) c.in_ok-scene.scene c.in_ok-verdict.verdict c.in_ok-scene.ensures checks out note e.written e.count)

pub returns : goal.returns
returns g c =
    let out = change g.K.Sink.held g.K.Sink.faults c.args.out.now c.write_verdict.new.out in
    let input = c.args.input.now in
    let checks = rw c.behind.ensures at c.in_ok-verdict.ensures in
    let e = c.in_ok-write_verdict.ensures in
    rw (← c.in-Some.ensures.place)
    (λ note. judged (take c.in-Some.at input) (behind frames_mark input c.in-Some.at) c.in_ok-scene.scene c.in_ok-verdict.verdict c.in_ok-scene.ensures checks out note c.in_ok-write_verdict.field-0 e.outcome e.written
    e.count)
