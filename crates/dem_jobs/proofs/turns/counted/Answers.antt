use Rattle.dem_outside.specs.Change.{change}
use Rattle.dem_jobs.proofs.StandFacts.{runs-from, never-began}
use Rattle.dem_jobs.proofs.turns.counted.Goals as goal

pub returns-in-Ok : goal.returns-in-Ok
returns-in-Ok g c =
    let out = change g.K.Sink.held g.K.Sink.faults c.args.out.now c.new.new.out in
    let out_now = change g.K.Sink.held g.K.Sink.faults c.args.out.now c.turn_by_turn-answer.new.out in
    runs-from c.args.shapes.now c.args.grid.now.drift c.args.grid.now.bin c.args.turns.now out.before out.after out_now.after _ c.in-Ok.world c.turn_by_turn-answer.result c.in-Ok.ensures c.turn_by_turn-answer.ensures

pub returns : goal.returns
returns g c =
    let out = change g.K.Sink.held g.K.Sink.faults c.args.out.now c.new.new.out in
    let note = change g.N.Sink.held g.N.Sink.faults c.args.note.now c.args.note.now in
    never-began c.args.shapes.now c.args.grid.now.drift c.args.grid.now.bin c.args.turns.now out.before out.after note.before c.in-Err.stop c.in-Err.ensures
