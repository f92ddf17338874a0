use Rattle.std.proofs.Common.{Ok, Err}
use Rattle.std.proofs.lemmas.Result.{err_from_is_err_and}
use Rattle.dem_outside.specs.Change.{change}
use Rattle.dem_jobs.specs.Verdicts.{looks_of, look_verdict}
use Rattle.dem_jobs.specs.Parts.{look_stop, run_outcome}
use Rattle.dem_jobs.proofs.JobFacts.{scene-undone, scene-done, look-stopped, look-written, look-each}
use Rattle.dem_jobs.proofs.looking.inspect.Goals as goal

pub returns-in_err-scene-clause-does : goal.returns-in_err-scene-clause-does
returns-in_err-scene-clause-does g c =
    let p = err_from_is_err_and c.from_residual.result c.from_residual.ensures.1 in
    let source = change g.S.Source.left g.S.Source.faults c.args.source.now c.read_one_scene.new.source in
    let out = change g.K.Sink.held g.K.Sink.faults c.args.out.now c.args.out.now in
    rw (p.1, p.2) (λ note. scene-undone looks_of look_verdict look-each source out.before note c.in_err-scene.field-0.0 c.in_err-scene.ensures.read)

pub returns-in_err-look-clause-does : goal.returns-in_err-look-clause-does
returns-in_err-look-clause-does g c =
    let p = err_from_is_err_and c.from_residual-in_err-look.result c.from_residual-in_err-look.ensures.1 in
    let source = change g.S.Source.left g.S.Source.faults c.args.source.now c.read_one_scene.new.source in
    let out = change g.K.Sink.held g.K.Sink.faults c.args.out.now c.look.new.out in
    let s = c.in_ok-scene.scene in
    let fault = c.in_err-look.field-0.0 in
    rw (p.1, p.2)
    (λ note. scene-done looks_of look_verdict look-each source out (record { before = note; after = note }) s c.in_ok-scene.ensures.read (Err (look_stop fault)) (look-stopped out note s fault c.in_err-look.ensures))

pub returns-clause-does : goal.returns-clause-does
returns-clause-does g c =
    let source = change g.S.Source.left g.S.Source.faults c.args.source.now c.read_one_scene.new.source in
    let out = change g.K.Sink.held g.K.Sink.faults c.args.out.now c.look.new.out in
    let s = c.in_ok-scene.scene in
    let last = c.in_ok-look.field-0 in
    rw c.from.ensures
    (λ note. scene-done looks_of look_verdict look-each source out (record { before = note; after = note }) s c.in_ok-scene.ensures.read (Ok (run_outcome last)) (look-written out note s last c.in_ok-look.ensures))
