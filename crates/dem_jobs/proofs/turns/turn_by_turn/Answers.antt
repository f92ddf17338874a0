use Rattle.std.proofs.Common.{refl}
use Rattle.std.proofs.lemmas.Result.{err_from_is_err_and}
use Rattle.dem_outside.specs.Change.{change}
use Rattle.dem_jobs.proofs.StandFacts.{not-stopped, stands-first, stands-at, cut-at, stands-all, ends-cut, ends-written, ends-unwritten}
use Rattle.dem_jobs.proofs.turns.turn_by_turn.Goals as goal

pub loop-turn-init : goal.loop-turn-init
loop-turn-init g c =
    let out = change g.K.Sink.held g.K.Sink.faults c.args.out.now c.args.out.now in
    let note = change g.N.Sink.held g.N.Sink.faults c.args.note.now c.args.note.now in (
      c.requires,
      λ first begins. stands-first c.args.world.now.scene c.args.world.now.drift c.args.world.now.bin first out.before note.before c.args.world.now begins,
    )

pub turn-requires : goal.turn-requires
turn-requires g c = c.loop-turn.invariant.0

pub returns-in_err-turn : goal.returns-in_err-turn
returns-in_err-turn g c =
    let p = err_from_is_err_and c.from_residual.result c.from_residual.ensures.1 in
    let out = change g.K.Sink.held g.K.Sink.faults c.args.out.now c.loop-turn.out in
    let out_now = change g.K.Sink.held g.K.Sink.faults c.args.out.now c.turn.new.out in
    let note = change g.N.Sink.held g.N.Sink.faults c.args.note.now c.loop-turn.note in
    let note_now = change g.N.Sink.held g.N.Sink.faults c.args.note.now c.turn.new.note in
    let e = c.in_err-turn.ensures in
    rw (p.1, p.2)
    (λ first begins. cut-at c.args.world.now.scene c.args.world.now.drift c.args.world.now.bin c.args.turns.now c.loop-turn.turn-index _ c.loop-turn-test.true first out.after out_now.after note.before note.after note_now.after
    c.loop-turn.world c.turn.new.self (c.loop-turn.invariant.1 first begins) c.in_err-turn.field-0.0 e.turned e.written e.noted e.faults)

pub loop-turn-preserved : goal.loop-turn-preserved
loop-turn-preserved g c =
    let out = change g.K.Sink.held g.K.Sink.faults c.args.out.now c.loop-turn.out in
    let out_now = change g.K.Sink.held g.K.Sink.faults c.args.out.now c.turn.new.out in
    let note = change g.N.Sink.held g.N.Sink.faults c.args.note.now c.loop-turn.note in
    let note_now = change g.N.Sink.held g.N.Sink.faults c.args.note.now c.turn.new.note in
    let e = c.in_ok-turn.ensures in (
      not-stopped c.loop-turn.world c.turn.new.self _ c.in_ok-turn.field-0 e.turned c.loop-turn.invariant.0,
      λ first begins. stands-at c.args.world.now.scene c.args.world.now.drift c.args.world.now.bin c.args.turns.now c.loop-turn.turn-index _ c.loop-turn-test.true first out.after out_now.after note.before note.after note_now.after
          c.loop-turn.world c.turn.new.self (c.loop-turn.invariant.1 first begins) c.in_ok-turn.field-0 e.turned e.written e.noted e.faults,
    )

pub finish-requires : goal.finish-requires
finish-requires g c = c.loop-turn.invariant.0

pub returns-in_err-last : goal.returns-in_err-last
returns-in_err-last g c =
    let p = err_from_is_err_and c.from_residual-in_err-last.result c.from_residual-in_err-last.ensures.1 in
    let out = change g.K.Sink.held g.K.Sink.faults c.args.out.now c.loop-turn.out in
    let out_now = change g.K.Sink.held g.K.Sink.faults c.args.out.now c.finish.new.out in
    let note = change g.N.Sink.held g.N.Sink.faults c.args.note.now c.loop-turn.note in
    let note_now = change g.N.Sink.held g.N.Sink.faults c.args.note.now c.finish.new.note in
    rw (p.1, p.2)
    (λ first begins.
    let stands = stands-all c.args.world.now.scene c.args.world.now.drift c.args.world.now.bin c.args.turns.now c.loop-turn.turn-index (record { before = first; after = out.after }) note c.loop-turn.world c.loop-turn-test.false (c.loop-turn.invariant.1 first begins) in
    ends-cut c.args.world.now.scene c.args.world.now.drift c.args.world.now.bin c.args.turns.now first out.after out_now.after note.before note.after note_now.after c.loop-turn.world c.finish.new.self stands
    c.in_err-last.field-0.0 _ _ c.in_err-last.ensures.goes_on c.in_err-last.ensures.faults)

pub returns-in_err-write_end : goal.returns-in_err-write_end
returns-in_err-write_end g c =
    let p = err_from_is_err_and c.from_residual-in_err-write_end.result c.from_residual-in_err-write_end.ensures.1 in
    let out = change g.K.Sink.held g.K.Sink.faults c.args.out.now c.loop-turn.out in
    let out_now = change g.K.Sink.held g.K.Sink.faults c.args.out.now c.finish.new.out in
    let note = change g.N.Sink.held g.N.Sink.faults c.args.note.now c.loop-turn.note in
    let note_now = change g.N.Sink.held g.N.Sink.faults c.args.note.now c.finish.new.note in
    let fin = change g.N.Sink.held g.N.Sink.faults c.args.note.now c.write_end.new.note in
    rw (p.1, p.2)
    (λ first begins.
    let stands = stands-all c.args.world.now.scene c.args.world.now.drift c.args.world.now.bin c.args.turns.now c.loop-turn.turn-index (record { before = first; after = out.after }) note c.loop-turn.world c.loop-turn-test.false (c.loop-turn.invariant.1 first begins) in
    ends-unwritten c.args.world.now.scene c.args.world.now.drift c.args.world.now.bin c.args.turns.now first out.after out_now.after note.before note.after note_now.after c.loop-turn.world c.finish.new.self stands
    c.in_ok-last.last _ _ c.in_ok-last.ensures.goes_on c.in_ok-last.ensures.faults _ fin.after refl c.in_err-write_end.ensures.written c.in_err-write_end.ensures.count)

pub returns : goal.returns
returns g c =
    let out = change g.K.Sink.held g.K.Sink.faults c.args.out.now c.loop-turn.out in
    let out_now = change g.K.Sink.held g.K.Sink.faults c.args.out.now c.finish.new.out in
    let note = change g.N.Sink.held g.N.Sink.faults c.args.note.now c.loop-turn.note in
    let note_now = change g.N.Sink.held g.N.Sink.faults c.args.note.now c.finish.new.note in
    let fin = change g.N.Sink.held g.N.Sink.faults c.args.note.now c.write_end.new.note in
    λ first begins.
    let stands = stands-all c.args.world.now.scene c.args.world.now.drift c.args.world.now.bin c.args.turns.now c.loop-turn.turn-index (record { before = first; after = out.after }) note c.loop-turn.world c.loop-turn-test.false (c.loop-turn.invariant.1 first begins) in
    ends-written c.args.world.now.scene c.args.world.now.drift c.args.world.now.bin c.args.turns.now first out.after out_now.after note.before note.after note_now.after c.loop-turn.world c.finish.new.self stands
    c.in_ok-last.last _ _ c.in_ok-last.ensures.goes_on c.in_ok-last.ensures.faults _ fin.after refl c.in_ok-write_end.ensures.written c.in_ok-write_end.ensures.count
