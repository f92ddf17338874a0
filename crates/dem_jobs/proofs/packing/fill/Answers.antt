use Rattle.std.proofs.lemmas.Result.{err_from_is_err_and}
use Rattle.dem_outside.specs.Change.{change}
use Rattle.dem_jobs.specs.Packed.{pack_mark, no_pack_text, packed}
use Rattle.dem_jobs.proofs.InputFacts.{input-undone, input-done}
use Rattle.dem_jobs.proofs.packing.fill.Goals as goal

pub returns-in_err-input-clause-does : goal.returns-in_err-input-clause-does
returns-in_err-input-clause-does g c =
    let p = err_from_is_err_and c.from_residual.result c.from_residual.ensures.1 in
    let source = change g.S.Source.left g.S.Source.faults c.args.source.now c.read_input.new.source in
    let out = change g.K.Sink.held g.K.Sink.faults c.args.out.now c.args.out.now in
    rw (p.1, p.2) (λ note. input-undone pack_mark no_pack_text (packed c.args.order.now.count) source out.before note c.in_err-input.field-0.0 c.in_err-input.ensures.read)

pub returns-clause-does : goal.returns-clause-does
returns-clause-does g c =
    let read = c.in_ok-input.ensures.read in
    let source = change g.S.Source.left g.S.Source.faults c.args.source.now c.read_input.new.source in
    let out = change g.K.Sink.held g.K.Sink.faults c.args.out.now c.fill_input.new.out in
    λ note. input-done pack_mark no_pack_text (packed c.args.order.now.count) source out note c.in_ok-input.input.items read.0 read.1 read.2 read.3 c.fill_input.result (rw c.as_slice.ensures.value at (c.fill_input.ensures note))
