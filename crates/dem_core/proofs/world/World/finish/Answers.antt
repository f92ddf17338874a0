use Rattle.std.proofs.Common.{refl, sym, ap, ◌∙◌}
use Rattle.std.proofs.lemmas.Result.{err_from_is_err_and}
use Rattle.dem_core.specs.Worlds.{Turning}
use Rattle.dem_core.proofs.CourseFacts.{none-open}
use Rattle.dem_core.proofs.FinishFacts.{Under-none, Under-did, GoesOn-stopped, rank-did, ended-whole}
use Rattle.dem_core.proofs.world.World.finish.Goals as goal

pub loop-last-init : goal.loop-last-init
loop-last-init g c = (Under-none c.args.self.now _ _ _ c.requires, refl, refl)

pub next_turn-t-requires : goal.next_turn-t-requires
next_turn-t-requires g c = (none-open c.loop-last.self.world.course (sym (ap (λ (t : Turning). t.world.course.last) c.self.view_is) ∙ sym c.last.ensures ∙ c.in_default.is))

pub loop-last-smaller : goal.loop-last-smaller
loop-last-smaller g c = rank-did c.loop-last.self c.turn.new.self c.next_turn-t.result c.in_ok-turn.field-0 (record { course = c.now-now.ensures.course; parcel = c.now-now.ensures.parcel }) (none-open c.loop-last.self.world.course (sym (ap (λ (t : Turning). t.world.course.last) c.self.view_is) ∙ sym c.last.ensures ∙ c.in_default.is)) c.next_turn-t.ensures c.in_ok-turn.ensures.turned

pub loop-last-preserved : goal.loop-last-preserved
loop-last-preserved g c = (
  Under-did c.args.self.now c.loop-last.self c.turn.new.self _ _ _ _ _ _ _ _ _ c.next_turn-t.result c.in_ok-turn.field-0 c.loop-last.invariant.0 (record { course = c.now-now.ensures.course; parcel = c.now-now.ensures.parcel })
      (none-open c.loop-last.self.world.course (sym (ap (λ (t : Turning). t.world.course.last) c.self.view_is) ∙ sym c.last.ensures ∙ c.in_default.is)) c.next_turn-t.ensures c.in_ok-turn.ensures.turned c.in_ok-turn.ensures.written c.in_ok-turn.ensures.noted c.turn.ensures.counted,
  c.in_ok-turn.ensures.faults.0 ∙ c.loop-last.invariant.1,
  c.in_ok-turn.ensures.faults.1 ∙ c.loop-last.invariant.2,
)

pub returns-in_err-turn-clause-goes_on : goal.returns-in_err-turn-clause-goes_on
returns-in_err-turn-clause-goes_on g c =
    let p = err_from_is_err_and c.from_residual.result c.from_residual.ensures.1 in
    rw (p.1, p.2)
    (GoesOn-stopped c.args.self.now c.loop-last.self c.turn.new.self _ _ _ _ _ _ _ _ _ c.next_turn-t.result c.loop-last.invariant.0 (none-open c.loop-last.self.world.course (sym (ap (λ (t : Turning). t.world.course.last) c.self.view_is) ∙ sym c.last.ensures ∙ c.in_default.is)) c.next_turn-t.ensures c.in_err-turn.field-0.0 c.in_err-turn.ensures.turned
    c.in_err-turn.ensures.written c.in_err-turn.ensures.noted c.turn.ensures.counted)

pub returns-in-Some-clause-ends : goal.returns-in-Some-clause-ends
returns-in-Some-clause-ends g c =
    ended-whole c.loop-last.self c.in-Some.last c.now-now.ensures.course (sym (ap (λ (t : Turning). t.world.course.last) c.self.view_is) ∙ sym c.last.ensures ∙ c.in-Some.is)
