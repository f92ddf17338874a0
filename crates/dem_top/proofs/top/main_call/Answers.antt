use Rattle.dem_outside.specs.Change.{change}
use Rattle.dem_words.specs.Meaning.{words_of}
use Rattle.dem_jobs.specs.Jobs.{job_meant}
use Rattle.dem_jobs.proofs.AnswerFacts.{usage-told, no-words}
use Rattle.dem_top.proofs.top.main_call.Goals as goal

pub returns-in-Err-Usage : goal.returns-in-Err-Usage
returns-in-Err-Usage g c =
    let meaning = rw c.in-Err-Usage.field-0-is at c.in-Err-Usage.ensures in
    let source = change g.S.Source.left g.S.Source.faults c.args.source.now c.args.source.now in
    let out = change g.K.Sink.held g.K.Sink.faults c.args.out.now c.args.out.now in
    let note = change g.N.Sink.held g.N.Sink.faults c.args.note.now c.refuse.new.note in
    rw meaning (usage-told source.before out.before note.before note.after c.refuse.result c.refuse.ensures)

pub returns-in-Err-OutOfMemory : goal.returns-in-Err-OutOfMemory
returns-in-Err-OutOfMemory g c =
    let source = change g.S.Source.left g.S.Source.faults c.args.source.now c.args.source.now in
    let out = change g.K.Sink.held g.K.Sink.faults c.args.out.now c.args.out.now in
    let note = change g.N.Sink.held g.N.Sink.faults c.args.note.now c.args.note.now in
    no-words (job_meant (words_of c.args.words.now)) source.before out.before note.before
