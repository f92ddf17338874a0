use Rattle.std.proofs.lemmas.Result.{err_from_is_err_and}
use Rattle.dem_outside.specs.Change.{change}
use Rattle.dem_jobs.specs.Verdicts.{threads_of, threads_verdict}
use Rattle.dem_jobs.proofs.JobFacts.{scene-undone, scene-done}
use Rattle.dem_jobs.proofs.ListsFacts.{threads-each}
use Rattle.dem_top.proofs.run.run.Goals as goal

pub returns-in_err-scene-clause-does : goal.returns-in_err-scene-clause-does
returns-in_err-scene-clause-does g c =
    let p = err_from_is_err_and c.from_residual.result c.from_residual.ensures.1 in
    let source = change g.S.Source.left g.S.Source.faults c.args.source.now c.read_one_scene.new.source in
    let out = change g.K.Sink.held g.K.Sink.faults c.args.out.now c.args.out.now in
    let note = change g.N.Sink.held g.N.Sink.faults c.args.note.now c.args.note.now in
    let o = c.args.order.now in
    rw (p.1, p.2) (scene-undone (threads_of o) (threads_verdict o) (threads-each o) source out.before note.before c.in_err-scene.field-0.0 c.in_err-scene.ensures.read)

pub returns-clause-does : goal.returns-clause-does
returns-clause-does g c =
    let source = change g.S.Source.left g.S.Source.faults c.args.source.now c.read_one_scene.new.source in
    let out = change g.K.Sink.held g.K.Sink.faults c.args.out.now c.run_scene.new.out in
    let note = change g.N.Sink.held g.N.Sink.faults c.args.note.now c.run_scene.new.note in
    let o = c.args.order.now in
    scene-done (threads_of o) (threads_verdict o) (threads-each o) source out note c.in_ok-scene.scene c.in_ok-scene.ensures.read c.run_scene.result c.run_scene.ensures
