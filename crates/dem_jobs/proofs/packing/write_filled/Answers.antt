use Rattle.std.proofs.Common.{refl}
use Rattle.std.proofs.lemmas.Result.{err_from_is_err_and}
use Rattle.dem_outside.specs.Change.{change}
use Rattle.dem_pack.specs.Asks.{answer_of}
use Rattle.dem_jobs.specs.Packed.{by_stands}
use Rattle.dem_jobs.proofs.JobFacts.{begins-nothing}
use Rattle.dem_jobs.proofs.PackedFacts.{text-is, pack-bad, filled, filled-cut}
use Rattle.dem_jobs.proofs.packing.write_filled.Goals as goal

pub returns-in_err-stands : goal.returns-in_err-stands
returns-in_err-stands g c =
    let p = err_from_is_err_and c.from_residual.result c.from_residual.ensures.1 in
    let out = change g.K.Sink.held g.K.Sink.faults c.args.out.now c.args.out.now in
    rw (p.1, p.2) (λ note. pack-bad c.args.text.now (answer_of c.args.scene.now c.args.ask.now) out.before note c.in_err-stands.field-0.0 c.in_err-stands.ensures.answer.err)

pub returns-in_err-filled : goal.returns-in_err-filled
returns-in_err-filled g c =
    let p = err_from_is_err_and c.from_residual-in_err-filled.result c.from_residual-in_err-filled.ensures.1 in
    let out = change g.K.Sink.held g.K.Sink.faults c.args.out.now c.args.out.now in
    rw (p.1, p.2) (λ note. (begins-nothing (by_stands c.args.text.now (answer_of c.args.scene.now c.args.ask.now)) out.before note, refl, refl))

pub returns-in_err-write_line : goal.returns-in_err-write_line
returns-in_err-write_line g c =
    let p = err_from_is_err_and c.from_residual-in_err-write_line.result c.from_residual-in_err-write_line.ensures.1 in
    let out = change g.K.Sink.held g.K.Sink.faults c.args.out.now c.write_line.new.out in
    let text = c.args.text.now in
    let stands = c.in_ok-stands.stands in
    let is = text-is stands text c.in_ok-filled.filled (rw c.as_slice.ensures at c.in_ok-filled.ensures.text) in
    let e = c.in_err-write_line.ensures in
    rw (p.1, p.2)
    (λ note. filled-cut text (answer_of c.args.scene.now c.args.ask.now) stands c.in_ok-stands.ensures.answer.ok out note
    (rw is at (rw c.as_slice-2.ensures at e.written)) e.count)

pub returns : goal.returns
returns g c =
    let out = change g.K.Sink.held g.K.Sink.faults c.args.out.now c.write_line.new.out in
    let text = c.args.text.now in
    let stands = c.in_ok-stands.stands in
    let is = text-is stands text c.in_ok-filled.filled (rw c.as_slice.ensures at c.in_ok-filled.ensures.text) in
    let e = c.in_ok-write_line.ensures in
    λ note. filled text (answer_of c.args.scene.now c.args.ask.now) stands c.in_ok-stands.ensures.answer.ok out note
    (rw is at (rw c.as_slice-2.ensures at e.written)) e.count
