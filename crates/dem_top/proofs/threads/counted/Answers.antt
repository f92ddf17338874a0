use Rattle.dem_outside.specs.Change.{change}
use Rattle.dem_top.proofs.ThreadFacts.{threads-done, threads-stopped}
use Rattle.dem_top.proofs.threads.counted.Goals as goal

pub returns-in-Ok : goal.returns-in-Ok
returns-in-Ok g c =
    let out = change g.K.Sink.held g.K.Sink.faults c.args.out.now c.run_two.new.out in
    let note = change g.N.Sink.held g.N.Sink.faults c.args.note.now c.run_two.new.note in
    threads-done c.args.shapes.now c.args.grid.now.drift out.before out.after note.before note.after c.in-Ok.ran c.in-Ok.ensures.ran c.in-Ok.ensures.faults

pub returns : goal.returns
returns g c =
    let out = change g.K.Sink.held g.K.Sink.faults c.args.out.now c.run_two.new.out in
    let note = change g.N.Sink.held g.N.Sink.faults c.args.note.now c.run_two.new.note in
    let e = c.in-Err.ensures in
    rw c.stop_of.ensures (threads-stopped c.args.shapes.now c.args.grid.now.drift out.before out.after note.before note.after c.in-Err.fault e.so_far e.noted e.faults)
