use Rattle.std.proofs.Common.{refl, None, Ok, Err}
use Rattle.std.proofs.lemmas.Result.{err_from_is_err_and}
use Rattle.dem_outside.specs.Change.{Change, change}
use Rattle.dem_jobs.specs.Verdicts.{threads_of}
use Rattle.dem_jobs.proofs.JobFacts.{begins-nothing}
use Rattle.dem_jobs.proofs.ListsFacts.{by-threads, scene-refused, scene-noted, scene-cut, scene-silent, scene-silent-cut, zero-calm}
use Rattle.dem_top.proofs.run.run_scene.Goals as goal

pub returns-in_err-shapes : goal.returns-in_err-shapes
returns-in_err-shapes g c =
    let p = err_from_is_err_and c.from_residual.result c.from_residual.ensures.1 in
    let out = change g.K.Sink.held g.K.Sink.faults c.args.out.now c.args.out.now in
    let note = change g.N.Sink.held g.N.Sink.faults c.args.note.now c.args.note.now in
    rw (p.1, p.2) (begins-nothing (threads_of c.args.order.now c.args.scene.now) out.before note.before, refl, refl)

pub returns-in_err-grid : goal.returns-in_err-grid
returns-in_err-grid g c =
    let p = err_from_is_err_and c.from_residual-in_err-grid.result c.from_residual-in_err-grid.ensures.1 in
    let out = change g.K.Sink.held g.K.Sink.faults c.args.out.now c.args.out.now in
    let note = change g.N.Sink.held g.N.Sink.faults c.args.note.now c.args.note.now in
    let e = c.in_err-grid.ensures in
    rw (← c.order.view_is, p.1, p.2)
    (scene-refused _ c.args.scene.now c.in_ok-shapes.shapes c.in_ok-shapes.ensures _ c.in_err-grid.field-0.0 out.before note.before e.refused e.many)

pub returns-in_err-last : goal.returns-in_err-last
returns-in_err-last g c =
    let p = err_from_is_err_and c.from_residual-in_err-last.result c.from_residual-in_err-last.ensures.1 in
    let out = change g.K.Sink.held g.K.Sink.faults c.args.out.now c.write_by_threads.new.out in
    let note = change g.N.Sink.held g.N.Sink.faults c.args.note.now c.write_by_threads.new.note in
    let s = c.args.scene.now in
    let shapes = c.in_ok-shapes.shapes in
    let e = c.in_ok-grid.ensures in
    rw (← c.order.view_is, p.1, p.2)
    (scene-cut _ s shapes c.in_ok-shapes.ensures _ c.in_ok-grid.grid e.grid e.fits out note c.in_err-last.field-0.0 c.if-order.true
    (by-threads s shapes c.in_ok-shapes.ensures _ _ c.in_ok-grid.grid e.grid out note (Err c.in_err-last.field-0.0) c.in_err-last.ensures))

pub returns-then-order : goal.returns-then-order
returns-then-order g c =
    let out = change g.K.Sink.held g.K.Sink.faults c.args.out.now c.write_by_threads.new.out in
    let note = change g.N.Sink.held g.N.Sink.faults c.args.note.now c.write_by_threads.new.note in
    let s = c.args.scene.now in
    let shapes = c.in_ok-shapes.shapes in
    let e = c.in_ok-grid.ensures in
    rw (← c.order.view_is, c.from.ensures)
    (scene-noted _ s shapes c.in_ok-shapes.ensures _ c.in_ok-grid.grid e.grid e.fits out note c.in_ok-last.last c.if-order.true
    (by-threads s shapes c.in_ok-shapes.ensures _ _ c.in_ok-grid.grid e.grid out note (Ok c.in_ok-last.last) c.in_ok-last.ensures))

-- the changes of a sink that keeps nothing
blank : Change
blank = record { before = record { bytes = None; faults = 0 }; after = record { bytes = None; faults = 0 } }

pub returns-in_err-last-2 : goal.returns-in_err-last-2
unfolding blank
returns-in_err-last-2 g c =
    let p = err_from_is_err_and c.from_residual-in_err-last-2.result c.from_residual-in_err-last-2.ensures.1 in
    let out = change g.K.Sink.held g.K.Sink.faults c.args.out.now c.write_by_threads-2.new.out in
    let note = change g.N.Sink.held g.N.Sink.faults c.args.note.now c.args.note.now in
    let s = c.args.scene.now in
    let shapes = c.in_ok-shapes.shapes in
    let e = c.in_ok-grid.ensures in
    rw (← c.order.view_is, p.1, p.2)
    (scene-silent-cut _ s shapes c.in_ok-shapes.ensures _ c.in_ok-grid.grid e.grid e.fits out blank note.before c.in_err-last-2.field-0.0 zero-calm c.if-order.false
    (by-threads s shapes c.in_ok-shapes.ensures _ _ c.in_ok-grid.grid e.grid out blank (Err c.in_err-last-2.field-0.0) c.in_err-last-2.ensures))

pub returns : goal.returns
unfolding blank
returns g c =
    let out = change g.K.Sink.held g.K.Sink.faults c.args.out.now c.write_by_threads-2.new.out in
    let note = change g.N.Sink.held g.N.Sink.faults c.args.note.now c.args.note.now in
    let s = c.args.scene.now in
    let shapes = c.in_ok-shapes.shapes in
    let e = c.in_ok-grid.ensures in
    rw (← c.order.view_is, c.from-2.ensures)
    (scene-silent _ s shapes c.in_ok-shapes.ensures _ c.in_ok-grid.grid e.grid e.fits out blank note.before c.in_ok-last-2.last c.if-order.false
    (by-threads s shapes c.in_ok-shapes.ensures _ _ c.in_ok-grid.grid e.grid out blank (Ok c.in_ok-last-2.last) c.in_ok-last-2.ensures))
