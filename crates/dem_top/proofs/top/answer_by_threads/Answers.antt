use Rattle.dem_outside.specs.Change.{change}
use Rattle.dem_jobs.specs.Jobs.{run_job}
use Rattle.dem_jobs.proofs.AnswerFacts.{answered}
use Rattle.dem_top.proofs.top.answer_by_threads.Goals as goal

pub returns : goal.returns
returns g c =
    let source = change g.S.Source.left g.S.Source.faults c.args.source.now c.run.new.source in
    let out = change g.K.Sink.held g.K.Sink.faults c.args.out.now c.run.new.out in
    let noted = change g.N.Sink.held g.N.Sink.faults c.args.note.now c.run.new.note in
    let told = change g.N.Sink.held g.N.Sink.faults c.run.new.note c.tell.new.note in
    answered (run_job c.args.order.now) source out noted.before noted.after told.after c.run.result c.tell.result c.run.ensures.does c.tell.ensures c.run.ensures.taken
