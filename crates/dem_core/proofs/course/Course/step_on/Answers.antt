use Rattle.std.proofs.Common.{◌≡◌, ◌+◌, ◌^◌, ◌<◌, length, true, Some, sym, ap, ap₂, ◌∙◌, subst, arith}
use denote.Param.Send.{sendable}
use Rattle.std.proofs.lemmas.Result.{err_from_is_err_and}
use Rattle.dem_model.specs.Sound.{IsSound}
use Rattle.dem_model.specs.World.{may_step, done_at}
use Rattle.dem_model.specs.declared.state.Last.TheVariants.{Passed}
use Rattle.dem_list.specs.Ascending.{Pairs}
use Rattle.dem_hist.specs.Carrying.{HeldByPlace}
use Rattle.dem_step.specs.Stepper.{Stepper}
use Rattle.dem_core.specs.Courses.{Running, course_of}
use Rattle.dem_core.proofs.CourseFacts.{may-goes_on}
use Rattle.dem_core.proofs.RunningFacts.{tests-fit, steps-course, ends-course, step-kept, stepped-view, step-writes, end-writes}
use Rattle.dem_core.proofs.course.Course.step_on.Goals as goal

pub overflow_add-self : goal.overflow_add-self
overflow_add-self g c =
    let lens : c.len.result ≡ length c.self.inside.run.contacts.list.pairs = c.len.ensures.value ∙ ap (λ (l : Pairs). length l.pairs) (c.list.ensures.value ∙ ap (λ (h : HeldByPlace). h.list) c.contacts.ensures.value) in
    omega (
      arith,
      lens,
      tests-fit c.self.inside.run.scene c.self.inside.run.drift (course_of c.self.inside.run c.self.inside.taken_at c.self.inside.tests c.self.inside.last) (subst IsSound c.shapes.ensures c.scene-scene.ensures.sound) c.self.invariant.1
          (subst (λ (r : Running). may_step r.scene r.drift r.course ≡ true) (sym c.self.view_is) c.requires)
          (subst (λ n. n < 2 ^ 32) (c.len.ensures.value ∙ ap (λ (l : Pairs). length l.pairs) (c.list.ensures.value ∙ ap (λ (h : HeldByPlace). h.list) c.contacts.ensures.value)) c.len.type_inv),
    )

pub step_on-requires : goal.step_on-requires
step_on-requires g c =
    let may = may-goes_on c.self.inside.run.scene c.self.inside.run.drift (course_of c.self.inside.run c.self.inside.taken_at c.self.inside.tests c.self.inside.last) (subst (λ (r : Running). may_step r.scene r.drift r.course ≡ true) (sym c.self.view_is) c.requires) in
    (search sendable depth 20, record { listed = may.young; goes_on = may.left })

pub invariant_of-self : goal.invariant_of-self
invariant_of-self g c =
    step-kept c.self.inside.run c.step_on.new.self c.self.inside.taken_at c.self.inside.tests (c.self.inside.tests + c.len.result) c.self.inside.last c.done_at-self-inside.result c.self.invariant.0 c.self.invariant.1
    (subst (λ (r : Running). may_step r.scene r.drift r.course ≡ true) (sym c.self.view_is) c.requires)
    (subst (λ n. n < 2 ^ 32) (c.len.ensures.value ∙ ap (λ (l : Pairs). length l.pairs) (c.list.ensures.value ∙ ap (λ (h : HeldByPlace). h.list) c.contacts.ensures.value)) c.len.type_inv)
    c.in-Ok.ensures.step.scene c.in-Ok.ensures.step.drift
    (steps-course c.self.inside.run c.step_on.new.self c.self.inside.taken_at c.self.inside.tests (c.self.inside.tests + c.len.result) c.self.inside.last c.done_at-self-inside.result c.in-Ok.ensures.step c.contacts-contacts.ensures.sound (ap (λ n. c.self.inside.tests + n) (c.len.ensures.value ∙ ap (λ (l : Pairs). length l.pairs) (c.list.ensures.value ∙ ap (λ (h : HeldByPlace). h.list) c.contacts.ensures.value))) (c.done_at-self-inside.ensures ∙ ap₂ done_at (c.scene-scene.ensures.value ∙ c.shapes.ensures) c.now.ensures.value))

pub returns-in_err-write_reached-in-Ok-clause-stepped : goal.returns-in_err-write_reached-in-Ok-clause-stepped
returns-in_err-write_reached-in-Ok-clause-stepped g c =
    stepped-view c.self.inside.run c.step_on.new.self c.self.inside.taken_at c.self.inside.tests c.self.inside.last (course_of c.step_on.new.self c.self.inside.taken_at (c.self.inside.tests + c.len.result) c.done_at-self-inside.result) _ c.self.view_is c.in-Ok.ensures.step.scene c.in-Ok.ensures.step.drift
    (steps-course c.self.inside.run c.step_on.new.self c.self.inside.taken_at c.self.inside.tests (c.self.inside.tests + c.len.result) c.self.inside.last c.done_at-self-inside.result c.in-Ok.ensures.step c.contacts-contacts.ensures.sound (ap (λ n. c.self.inside.tests + n) (c.len.ensures.value ∙ ap (λ (l : Pairs). length l.pairs) (c.list.ensures.value ∙ ap (λ (h : HeldByPlace). h.list) c.contacts.ensures.value))) (c.done_at-self-inside.ensures ∙ ap₂ done_at (c.scene-scene.ensures.value ∙ c.shapes.ensures) c.now.ensures.value))

pub returns-in_err-write_reached-in-Ok-clause-written : goal.returns-in_err-write_reached-in-Ok-clause-written
returns-in_err-write_reached-in-Ok-clause-written g c =
    let p = err_from_is_err_and c.from_residual.result c.from_residual.ensures.1 in rw (p.1) (rw (step-writes c.self.inside.run c.step_on.new.self c.self.inside.taken_at c.self.inside.tests c.self.inside.last _ c.self.view_is c.in-Ok.ensures.step) at c.in_err-write_reached-in-Ok.ensures.written)

pub invariant_of-self-in-Ok : goal.invariant_of-self-in-Ok
invariant_of-self-in-Ok g c =
    step-kept c.self.inside.run c.step_on.new.self c.self.inside.taken_at c.self.inside.tests (c.self.inside.tests + c.len.result) c.self.inside.last c.done_at-self-inside.result c.self.invariant.0 c.self.invariant.1
    (subst (λ (r : Running). may_step r.scene r.drift r.course ≡ true) (sym c.self.view_is) c.requires)
    (subst (λ n. n < 2 ^ 32) (c.len.ensures.value ∙ ap (λ (l : Pairs). length l.pairs) (c.list.ensures.value ∙ ap (λ (h : HeldByPlace). h.list) c.contacts.ensures.value)) c.len.type_inv)
    c.in-Ok.ensures.step.scene c.in-Ok.ensures.step.drift
    (steps-course c.self.inside.run c.step_on.new.self c.self.inside.taken_at c.self.inside.tests (c.self.inside.tests + c.len.result) c.self.inside.last c.done_at-self-inside.result c.in-Ok.ensures.step c.contacts-contacts.ensures.sound (ap (λ n. c.self.inside.tests + n) (c.len.ensures.value ∙ ap (λ (l : Pairs). length l.pairs) (c.list.ensures.value ∙ ap (λ (h : HeldByPlace). h.list) c.contacts.ensures.value))) (c.done_at-self-inside.ensures ∙ ap₂ done_at (c.scene-scene.ensures.value ∙ c.shapes.ensures) c.now.ensures.value))

pub returns-in_ok-write_reached-in-Ok-clause-stepped : goal.returns-in_ok-write_reached-in-Ok-clause-stepped
returns-in_ok-write_reached-in-Ok-clause-stepped g c =
    stepped-view c.self.inside.run c.step_on.new.self c.self.inside.taken_at c.self.inside.tests c.self.inside.last (course_of c.step_on.new.self c.self.inside.taken_at (c.self.inside.tests + c.len.result) c.done_at-self-inside.result) _ c.self.view_is c.in-Ok.ensures.step.scene c.in-Ok.ensures.step.drift
    (steps-course c.self.inside.run c.step_on.new.self c.self.inside.taken_at c.self.inside.tests (c.self.inside.tests + c.len.result) c.self.inside.last c.done_at-self-inside.result c.in-Ok.ensures.step c.contacts-contacts.ensures.sound (ap (λ n. c.self.inside.tests + n) (c.len.ensures.value ∙ ap (λ (l : Pairs). length l.pairs) (c.list.ensures.value ∙ ap (λ (h : HeldByPlace). h.list) c.contacts.ensures.value))) (c.done_at-self-inside.ensures ∙ ap₂ done_at (c.scene-scene.ensures.value ∙ c.shapes.ensures) c.now.ensures.value))

pub returns-in_ok-write_reached-in-Ok-clause-written : goal.returns-in_ok-write_reached-in-Ok-clause-written
returns-in_ok-write_reached-in-Ok-clause-written g c =
    rw (step-writes c.self.inside.run c.step_on.new.self c.self.inside.taken_at c.self.inside.tests c.self.inside.last _ c.self.view_is c.in-Ok.ensures.step) at c.in_ok-write_reached-in-Ok.ensures.written

pub invariant_of-self-in_err-write_end-in-Err : goal.invariant_of-self-in_err-write_end-in-Err
invariant_of-self-in_err-write_end-in-Err g c =
    step-kept c.self.inside.run c.step_on.new.self c.self.inside.taken_at c.self.inside.tests (c.self.inside.tests + c.len.result) c.self.inside.last (Some (Passed c.in-Err.end)) c.self.invariant.0 c.self.invariant.1
    (subst (λ (r : Running). may_step r.scene r.drift r.course ≡ true) (sym c.self.view_is) c.requires)
    (subst (λ n. n < 2 ^ 32) (c.len.ensures.value ∙ ap (λ (l : Pairs). length l.pairs) (c.list.ensures.value ∙ ap (λ (h : HeldByPlace). h.list) c.contacts.ensures.value)) c.len.type_inv)
    (ap (λ (r : Stepper). r.scene) c.in-Err.ensures.step.1) (ap (λ (r : Stepper). r.drift) c.in-Err.ensures.step.1)
    (ends-course c.self.inside.run c.step_on.new.self c.self.inside.taken_at c.self.inside.tests (c.self.inside.tests + c.len.result) c.self.inside.last c.in-Err.end c.in-Err.ensures.step.0 c.in-Err.ensures.step.1 (ap (λ n. c.self.inside.tests + n) (c.len.ensures.value ∙ ap (λ (l : Pairs). length l.pairs) (c.list.ensures.value ∙ ap (λ (h : HeldByPlace). h.list) c.contacts.ensures.value))))

pub returns-in_err-write_end-in-Err-clause-stepped : goal.returns-in_err-write_end-in-Err-clause-stepped
returns-in_err-write_end-in-Err-clause-stepped g c =
    stepped-view c.self.inside.run c.step_on.new.self c.self.inside.taken_at c.self.inside.tests c.self.inside.last (course_of c.step_on.new.self c.self.inside.taken_at (c.self.inside.tests + c.len.result) (Some (Passed c.in-Err.end))) _ c.self.view_is (ap (λ (r : Stepper). r.scene) c.in-Err.ensures.step.1) (ap (λ (r : Stepper). r.drift) c.in-Err.ensures.step.1)
    (ends-course c.self.inside.run c.step_on.new.self c.self.inside.taken_at c.self.inside.tests (c.self.inside.tests + c.len.result) c.self.inside.last c.in-Err.end c.in-Err.ensures.step.0 c.in-Err.ensures.step.1 (ap (λ n. c.self.inside.tests + n) (c.len.ensures.value ∙ ap (λ (l : Pairs). length l.pairs) (c.list.ensures.value ∙ ap (λ (h : HeldByPlace). h.list) c.contacts.ensures.value))))

pub returns-in_err-write_end-in-Err-clause-written : goal.returns-in_err-write_end-in-Err-clause-written
returns-in_err-write_end-in-Err-clause-written g c =
    let p = err_from_is_err_and c.from_residual-in_err-write_end-in-Err.result c.from_residual-in_err-write_end-in-Err.ensures.1 in rw (p.1) (rw (end-writes c.self.inside.run c.self.inside.taken_at c.self.inside.tests c.self.inside.last _ c.in-Err.end c.self.view_is c.in-Err.ensures.step.0) at c.in_err-write_end-in-Err.ensures.written)

pub invariant_of-self-in-Err : goal.invariant_of-self-in-Err
invariant_of-self-in-Err g c =
    step-kept c.self.inside.run c.step_on.new.self c.self.inside.taken_at c.self.inside.tests (c.self.inside.tests + c.len.result) c.self.inside.last (Some (Passed c.in-Err.end)) c.self.invariant.0 c.self.invariant.1
    (subst (λ (r : Running). may_step r.scene r.drift r.course ≡ true) (sym c.self.view_is) c.requires)
    (subst (λ n. n < 2 ^ 32) (c.len.ensures.value ∙ ap (λ (l : Pairs). length l.pairs) (c.list.ensures.value ∙ ap (λ (h : HeldByPlace). h.list) c.contacts.ensures.value)) c.len.type_inv)
    (ap (λ (r : Stepper). r.scene) c.in-Err.ensures.step.1) (ap (λ (r : Stepper). r.drift) c.in-Err.ensures.step.1)
    (ends-course c.self.inside.run c.step_on.new.self c.self.inside.taken_at c.self.inside.tests (c.self.inside.tests + c.len.result) c.self.inside.last c.in-Err.end c.in-Err.ensures.step.0 c.in-Err.ensures.step.1 (ap (λ n. c.self.inside.tests + n) (c.len.ensures.value ∙ ap (λ (l : Pairs). length l.pairs) (c.list.ensures.value ∙ ap (λ (h : HeldByPlace). h.list) c.contacts.ensures.value))))

pub returns-in_ok-write_end-in-Err-clause-stepped : goal.returns-in_ok-write_end-in-Err-clause-stepped
returns-in_ok-write_end-in-Err-clause-stepped g c =
    stepped-view c.self.inside.run c.step_on.new.self c.self.inside.taken_at c.self.inside.tests c.self.inside.last (course_of c.step_on.new.self c.self.inside.taken_at (c.self.inside.tests + c.len.result) (Some (Passed c.in-Err.end))) _ c.self.view_is (ap (λ (r : Stepper). r.scene) c.in-Err.ensures.step.1) (ap (λ (r : Stepper). r.drift) c.in-Err.ensures.step.1)
    (ends-course c.self.inside.run c.step_on.new.self c.self.inside.taken_at c.self.inside.tests (c.self.inside.tests + c.len.result) c.self.inside.last c.in-Err.end c.in-Err.ensures.step.0 c.in-Err.ensures.step.1 (ap (λ n. c.self.inside.tests + n) (c.len.ensures.value ∙ ap (λ (l : Pairs). length l.pairs) (c.list.ensures.value ∙ ap (λ (h : HeldByPlace). h.list) c.contacts.ensures.value))))

pub returns-in_ok-write_end-in-Err-clause-written : goal.returns-in_ok-write_end-in-Err-clause-written
returns-in_ok-write_end-in-Err-clause-written g c =
    rw (end-writes c.self.inside.run c.self.inside.taken_at c.self.inside.tests c.self.inside.last _ c.in-Err.end c.self.view_is c.in-Err.ensures.step.0) at c.in_ok-write_end-in-Err.ensures.written
