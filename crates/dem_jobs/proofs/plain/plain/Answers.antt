use Rattle.std.proofs.Common.{Ok, Err}
use Rattle.std.proofs.lemmas.Result.{err_from_is_err_and}
use Rattle.dem_outside.specs.Change.{change}
use Rattle.dem_jobs.specs.Verdicts.{run_verdict, no_rows, plain_verdict}
use Rattle.dem_jobs.specs.Parts.{run_stop, run_outcome}
use Rattle.dem_jobs.proofs.JobFacts.{scene-undone, scene-done, plain-stopped, plain-written, plain-each}
use Rattle.dem_jobs.proofs.plain.plain.Goals as goal

pub returns-in_err-scene-clause-does : goal.returns-in_err-scene-clause-does
returns-in_err-scene-clause-does g c =
    let p = err_from_is_err_and c.from_residual.result c.from_residual.ensures.1 in
    let source = change g.S.Source.left g.S.Source.faults c.args.source.now c.read_one_scene.new.source in
    let out = change g.K.Sink.held g.K.Sink.faults c.args.out.now c.args.out.now in
    rw (p.1, p.2) (λ note. scene-undone (run_verdict no_rows) plain_verdict plain-each source out.before note c.in_err-scene.field-0.0 c.in_err-scene.ensures.read)

pub returns-in_err-write_run-clause-does : goal.returns-in_err-write_run-clause-does
returns-in_err-write_run-clause-does g c =
    let p = err_from_is_err_and c.from_residual-in_err-write_run.result c.from_residual-in_err-write_run.ensures.1 in
    let source = change g.S.Source.left g.S.Source.faults c.args.source.now c.read_one_scene.new.source in
    let out = change g.K.Sink.held g.K.Sink.faults c.args.out.now c.write_run.new.out in
    let s = c.in_ok-scene.scene in
    let fault = c.in_err-write_run.field-0.0 in
    rw (p.1, p.2)
    (λ note. scene-done (run_verdict no_rows) plain_verdict plain-each source out (record { before = note; after = note }) s c.in_ok-scene.ensures.read (Err (run_stop fault)) (plain-stopped out note s fault c.in_err-write_run.ensures))

pub returns-clause-does : goal.returns-clause-does
returns-clause-does g c =
    let source = change g.S.Source.left g.S.Source.faults c.args.source.now c.read_one_scene.new.source in
    let out = change g.K.Sink.held g.K.Sink.faults c.args.out.now c.write_run.new.out in
    let s = c.in_ok-scene.scene in
    let last = c.in_ok-write_run.field-0 in
    rw c.from.ensures
    (λ note. scene-done (run_verdict no_rows) plain_verdict plain-each source out (record { before = note; after = note }) s c.in_ok-scene.ensures.read (Ok (run_outcome last)) (plain-written out note s last c.in_ok-write_run.ensures))
