use Rattle.dem_outside.specs.Change.{Stream, change}
use Rattle.dem_jobs.specs.Parts.{idle}
use Rattle.dem_jobs.proofs.SummaryFacts.{gen-does}
use Rattle.dem_jobs.proofs.PackedFacts.{pack-does}
use Rattle.dem_jobs.proofs.quiet.carry_out.Goals as goal

pub returns-in-Plain-clause-does : goal.returns-in-Plain-clause-does
returns-in-Plain-clause-does g c =
    rw (← c.order.view_is, c.in-Plain.is) (c.plain.ensures.does (record { bytes = g.N.Sink.held c.args.note.now; faults = g.N.Sink.faults c.args.note.now }))

pub returns-in-Check-clause-does : goal.returns-in-Check-clause-does
returns-in-Check-clause-does g c =
    rw (← c.order.view_is, c.in-Check.is) (c.compare.ensures.does (record { bytes = g.N.Sink.held c.args.note.now; faults = g.N.Sink.faults c.args.note.now }))

pub returns-in-Resume-clause-does : goal.returns-in-Resume-clause-does
returns-in-Resume-clause-does g c =
    rw (← c.order.view_is, c.in-Resume.is) (c.resume.ensures.does (record { bytes = g.N.Sink.held c.args.note.now; faults = g.N.Sink.faults c.args.note.now }))

pub returns-in-Look-clause-does : goal.returns-in-Look-clause-does
returns-in-Look-clause-does g c =
    rw (← c.order.view_is, c.in-Look.is) (c.inspect.ensures.does (record { bytes = g.N.Sink.held c.args.note.now; faults = g.N.Sink.faults c.args.note.now }))

pub returns-in-Gen-clause-does : goal.returns-in-Gen-clause-does
returns-in-Gen-clause-does g c =
    let source : Stream = record { bytes = g.S.Source.left c.args.source.now; faults = g.S.Source.faults c.args.source.now } in
    let note : Stream = record { bytes = g.N.Sink.held c.args.note.now; faults = g.N.Sink.faults c.args.note.now } in
    let out = change g.K.Sink.held g.K.Sink.faults c.args.out.now c.summarize.new.out in
    gen-does c.args.order.now source out (idle note) c.summarize.result (rw (← c.order.view_is) c.in-Gen.is) (c.summarize.ensures note)

pub returns-in-Pack-clause-does : goal.returns-in-Pack-clause-does
returns-in-Pack-clause-does g c =
    let source = change g.S.Source.left g.S.Source.faults c.args.source.now c.fill.new.source in
    let out = change g.K.Sink.held g.K.Sink.faults c.args.out.now c.fill.new.out in
    let note : Stream = record { bytes = g.N.Sink.held c.args.note.now; faults = g.N.Sink.faults c.args.note.now } in
    pack-does c.args.order.now source out note c.fill.result (rw (← c.order.view_is) c.in-Pack.is) c.fill.ensures.does
