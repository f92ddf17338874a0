use Rattle.std.proofs.Common.{◌+◌, length, take, arith}
use Rattle.std.proofs.lemmas.List.{length-drop}
use Rattle.std.proofs.lemmas.Result.{err_from_is_err_and}
use Rattle.dem_outside.specs.Change.{change}
use Rattle.dem_jobs.specs.Marks.{behind}
use Rattle.dem_jobs.specs.Resumed.{frame_mark, resumed}
use Rattle.dem_jobs.proofs.InputFacts.{scene-bad, scene-good}
use Rattle.dem_jobs.proofs.resuming.resume_input.Goals as goal

pub returns-in_err-scene : goal.returns-in_err-scene
returns-in_err-scene g c =
    let p = err_from_is_err_and c.from_residual.result c.from_residual.ensures.1 in
    let out = change g.K.Sink.held g.K.Sink.faults c.args.out.now c.args.out.now in
    let input = c.args.input.now in
    rw (← c.in-Some.ensures.place, p.1, p.2)
    (λ note. scene-bad (resumed (behind frame_mark input c.in-Some.at)) (take c.in-Some.at input) out.before note c.in_err-scene.field-0.0 c.in_err-scene.ensures)

pub go_on-requires : goal.go_on-requires
go_on-requires g c =
    let input = c.args.input.now in
    let skipped = c.in-Some.at + (length frame_mark + 1) in
    rw (c.behind.ensures, length-drop skipped input) (omega arith)

pub returns : goal.returns
returns g c =
    let out = change g.K.Sink.held g.K.Sink.faults c.args.out.now c.go_on.new.out in
    let input = c.args.input.now in
    rw (← c.in-Some.ensures.place)
    (λ note. scene-good (resumed (behind frame_mark input c.in-Some.at)) (take c.in-Some.at input) c.in_ok-scene.scene c.in_ok-scene.ensures out note c.go_on.result (rw c.behind.ensures at (c.go_on.ensures note)))
