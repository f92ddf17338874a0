use Rattle.std.proofs.Common.{take, sym}
use Rattle.std.proofs.lemmas.Result.{err_from_is_err_and}
use Rattle.dem_outside.specs.Change.{change}
use Rattle.dem_jobs.specs.Marks.{behind}
use Rattle.dem_jobs.specs.Packed.{pack_mark, packed}
use Rattle.dem_jobs.proofs.InputFacts.{scene-bad}
use Rattle.dem_jobs.proofs.PackedFacts.{no-row, asked}
use Rattle.dem_jobs.proofs.packing.fill_input.Goals as goal

pub returns-in_err-scene : goal.returns-in_err-scene
returns-in_err-scene g c =
    let p = err_from_is_err_and c.from_residual.result c.from_residual.ensures.1 in
    let out = change g.K.Sink.held g.K.Sink.faults c.args.out.now c.args.out.now in
    let input = c.args.input.now in
    let text = take c.in-Some.at input in
    rw (← c.in-Some.ensures.place, p.1, p.2)
    (λ note. scene-bad (packed c.args.order.now.count text (behind pack_mark input c.in-Some.at)) text out.before note c.in_err-scene.field-0.0 c.in_err-scene.ensures)

pub returns-in_default-read_ask : goal.returns-in_default-read_ask
returns-in_default-read_ask g c =
    let out = change g.K.Sink.held g.K.Sink.faults c.args.out.now c.args.out.now in
    let input = c.args.input.now in
    rw (← c.in-Some.ensures.place)
    (λ note. no-row c.args.order.now.count (take c.in-Some.at input) (behind pack_mark input c.in-Some.at) c.in_ok-scene.scene c.in_ok-scene.ensures out.before note
    (rw (← c.order.view_is) (sym (rw c.behind.ensures at c.in_default-read_ask.ensures.value))))

pub returns : goal.returns
returns g c =
    let out = change g.K.Sink.held g.K.Sink.faults c.args.out.now c.write_filled.new.out in
    let input = c.args.input.now in
    rw (← c.in-Some.ensures.place)
    (λ note. asked c.args.order.now.count (take c.in-Some.at input) (behind pack_mark input c.in-Some.at) c.in_ok-scene.scene c.in_ok-scene.ensures out note c.in-Some-read_ask.ask c.write_filled.result
    (rw (← c.order.view_is) (sym (rw c.behind.ensures at c.in-Some-read_ask.ensures.value))) (c.write_filled.ensures note))
