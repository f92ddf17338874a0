use Rattle.dem_outside.specs.Change.{change}
use Rattle.dem_jobs.specs.Jobs.{job_of}
use Rattle.dem_jobs.proofs.AnswerFacts.{answered}
use Rattle.dem_top.proofs.top.answer.Goals as goal

pub returns : goal.returns
returns g c =
    let source = change g.S.Source.left g.S.Source.faults c.args.source.now c.carry_out.new.source in
    let out = change g.K.Sink.held g.K.Sink.faults c.args.out.now c.carry_out.new.out in
    let noted = change g.N.Sink.held g.N.Sink.faults c.args.note.now c.carry_out.new.note in
    let told = change g.N.Sink.held g.N.Sink.faults c.carry_out.new.note c.tell.new.note in
    answered (job_of c.args.order.now) source out noted.before noted.after told.after c.carry_out.result c.tell.result c.carry_out.ensures.does c.tell.ensures c.carry_out.ensures.taken
