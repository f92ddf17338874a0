use Rattle.std.proofs.Common.{true, false, ◌≡◌, ◌+◌, ◌<◌, ◌≤◌, List, length, take, sym, ap, ◌∙◌, subst, arith, Ok, Err, Option}
use Rattle.std.specs.Option.{IsSomeAnd}
use Rattle.std.specs.Prelude.{All}
use Rattle.std.proofs.lemmas.List.{with_items_is}
use Rattle.dem_num.specs.declared.vector.Vec3.{Vec3}
use Rattle.dem_model.specs.Carry.{kept_of}
use Rattle.dem_model.specs.Centers.{centers_of}
use Rattle.dem_model.specs.Motion.{AreInside, IsPair}
use Rattle.dem_model.specs.Step.{advanced_from, step_of}
use Rattle.dem_model.specs.declared.law.Load.{Load}
use Rattle.dem_model.specs.declared.state.Body.{Body}
use Rattle.dem_model.specs.declared.state.State.{State}
use Rattle.dem_model.proofs.SoundFacts.{centers_of-inside}
use Rattle.dem_shape.specs.Matrices.{AreMatrices}
use Rattle.dem_force.specs.Loads.{AreLoads}
use Rattle.dem_list.specs.Ascending.{Pairs}
use Rattle.dem_hist.specs.Carrying.{HeldByPlace}
use Rattle.dem_step.specs.Contacts.{held_by}
use Rattle.dem_step.specs.Marks.{StayMarked}
use Rattle.dem_step.specs.Stepper.{Stepper, state_at}
use Rattle.dem_step.specs.Inside.{from_of, IsStepper, HaveMet}
use Rattle.dem_step.proofs.MetFacts.{loads-met-all}
use Rattle.dem_step.proofs.ListFacts.{kept_of-take}
use Rattle.dem_step.proofs.StepFacts.{IsUsable, usable, about, step-made, step-ends, plain-number, next_state}
use Rattle.dem_step.proofs.HandFacts.{ahead-of, met-before}
use Rattle.dem_step.proofs.KeptFacts.{stepper-next, state-next}
use Rattle.dem_step.proofs.MarkFacts.{AreRenewed, marks_now, marks_next, marks_renewed}
use Rattle.dem_step.proofs.PreparedFacts.{prepared_kept, prepared_past}
use Rattle.dem_step.proofs.stepper.Dyn.step.Goals as goal

pub steps_left-left-requires-clause-past : goal.steps_left-left-requires-clause-past
steps_left-left-requires-clause-past g c =
    let can : IsUsable c.self.inside.shapes.now c.self.inside.drift c.self.inside.step c.self.inside.contacts.list =
    usable c.self.inside.shapes.now c.self.inside.drift c.self.inside.step c.self.inside.listed c.self.inside.bodies c.self.inside.contacts c.self.invariant.0
    (subst (λ (r : Stepper). IsSomeAnd r.from (λ from. r.state.step ≤ from + r.drift)) (sym c.self.view_is) c.requires.listed) in
    let from : c.from.result ≡ c.self.inside.contacts.list.from = c.from.ensures ∙ ap (λ (l : Pairs). l.from) c.list.ensures.value in
    omega (arith, can.past, from)

pub steps_left-left-requires-clause-young : goal.steps_left-left-requires-clause-young
steps_left-left-requires-clause-young g c =
    let can : IsUsable c.self.inside.shapes.now c.self.inside.drift c.self.inside.step c.self.inside.contacts.list =
    usable c.self.inside.shapes.now c.self.inside.drift c.self.inside.step c.self.inside.listed c.self.inside.bodies c.self.inside.contacts c.self.invariant.0
    (subst (λ (r : Stepper). IsSomeAnd r.from (λ from. r.state.step ≤ from + r.drift)) (sym c.self.view_is) c.requires.listed) in
    let from : c.from.result ≡ c.self.inside.contacts.list.from = c.from.ensures ∙ ap (λ (l : Pairs). l.from) c.list.ensures.value in
    omega (arith, can.late, from)

pub renew_unless-requires-clause-room : goal.renew_unless-requires-clause-room
renew_unless-requires-clause-room g c = omega (arith, c.self.invariant.3.room, ap (λ (l : Pairs). length l.pairs) c.list-2.ensures.value)

pub renew_unless-requires-clause-centers : goal.renew_unless-requires-clause-centers
renew_unless-requires-clause-centers g c =
    subst (AreInside c.self.inside.shapes.now) (sym c.make.ensures.centers_are)
    (centers_of-inside c.self.inside.shapes.now c.self.inside.bodies c.self.invariant.0.scene c.self.invariant.0.sound)

pub renew_unless-requires-clause-pairs : goal.renew_unless-requires-clause-pairs
renew_unless-requires-clause-pairs g c =
    subst (λ (l : Pairs). All (IsPair c.self.inside.shapes.now) l.pairs) (sym c.list-2.ensures.value) c.self.invariant.0.contacts_are.pairs.each

pub renew_unless-requires-clause-left : goal.renew_unless-requires-clause-left
renew_unless-requires-clause-left g c = omega (arith, c.steps_left-left.ensures.size, c.self.invariant.0.drift_le)

pub meet_unless-requires-clause-marks : goal.meet_unless-requires-clause-marks
meet_unless-requires-clause-marks g c = omega (arith, c.self.invariant.3.room, c.renew_unless.ensures.room)

pub meet_unless-requires-clause-marked : goal.meet_unless-requires-clause-marked
meet_unless-requires-clause-marked g c =
    let can : IsUsable c.self.inside.shapes.now c.self.inside.drift c.self.inside.step c.self.inside.contacts.list =
    usable c.self.inside.shapes.now c.self.inside.drift c.self.inside.step c.self.inside.listed c.self.inside.bodies c.self.inside.contacts c.self.invariant.0
    (subst (λ (r : Stepper). IsSomeAnd r.from (λ from. r.state.step ≤ from + r.drift)) (sym c.self.view_is) c.requires.listed) in
    let from : c.from.result ≡ c.self.inside.contacts.list.from = c.from.ensures ∙ ap (λ (l : Pairs). l.from) c.list.ensures.value in
    let stay : StayMarked c.self.inside.shapes.now c.self.inside.step (c.self.inside.contacts.list.from + c.self.inside.drift) c.self.inside.contacts.list.pairs c.renew_unless.new.self =
    marks_renewed c.self.inside.shapes.now c.self.inside.step c.steps_left-left.result (c.self.inside.contacts.list.from + c.self.inside.drift) c.self.inside.contacts.list.pairs c.self.inside.marks c.renew_unless.new.self
    c.self.inside.bodies c.make.new.self.spheres.centers c.self.invariant.0.scene c.self.invariant.3 (c.steps_left-left.ensures.value ∙ ap (λ n. n + c.self.inside.drift) from) c.self.invariant.0.plain c.self.invariant.0.bodies_are c.make.ensures.centers_are
    can.pairs.each c.renew_unless.ensures.room
    (subst (λ (l : Pairs). AreRenewed c.self.inside.shapes.now c.steps_left-left.result c.make.new.self.spheres.centers l.pairs c.self.inside.marks c.renew_unless.new.self) c.list-2.ensures.value c.renew_unless.ensures.right) in
    marks_now c.self.inside.shapes.now c.self.inside.step (c.self.inside.contacts.list.from + c.self.inside.drift) c.self.inside.contacts.list.pairs c.renew_unless.new.self c.self.inside.bodies c.make.new.self.spheres.centers
    stay can.late c.self.invariant.0.plain c.self.invariant.0.bodies_are c.make.ensures.centers_are

pub meet_unless-requires-clause-centers : goal.meet_unless-requires-clause-centers
meet_unless-requires-clause-centers g c =
    subst (AreInside c.self.inside.shapes.now) (sym c.make.ensures.centers_are)
    (centers_of-inside c.self.inside.shapes.now c.self.inside.bodies c.self.invariant.0.scene c.self.invariant.0.sound)

pub meet_unless-requires-clause-pairs : goal.meet_unless-requires-clause-pairs
meet_unless-requires-clause-pairs g c =
    (usable c.self.inside.shapes.now c.self.inside.drift c.self.inside.step c.self.inside.listed c.self.inside.bodies c.self.inside.contacts c.self.invariant.0
    (subst (λ (r : Stepper). IsSomeAnd r.from (λ from. r.state.step ≤ from + r.drift)) (sym c.self.view_is) c.requires.listed)).pairs

pub meet_unless-requires-clause-before : goal.meet_unless-requires-clause-before
meet_unless-requires-clause-before g c = λ (is : c.self.inside.met ≡ true).
    met-before c.self.inside.shapes.now c.self.inside.listed c.self.inside.bodies _ c.make.new.self.spheres.centers c.self.inside.contacts _ c.self.inside.loads.items _ c.self.inside.fresh.items
    (c.as_slice.ensures ∙ c.make.ensures.bodies_are) c.make.ensures.centers_are c.as_mut_slice.ensures.value c.as_mut_slice-2.ensures.value (c.self.invariant.4 is)

pub overflow_add-self-inside : goal.overflow_add-self-inside
overflow_add-self-inside g c =
    let lt : (state_at c.self.inside.shapes.now c.self.inside.step).step < c.self.inside.shapes.now.steps = subst (λ (r : Stepper). r.state.step < r.scene.steps) (sym c.self.view_is) c.requires.goes_on in
    omega (arith, lt, plain-number c.self.inside.shapes.now c.self.inside.step (state_at c.self.inside.shapes.now c.self.inside.step) c.self.invariant.0.plain, c.self.invariant.0.scene.steps)

pub overflow_add-self : goal.overflow_add-self
overflow_add-self g c =
    let lt : (state_at c.self.inside.shapes.now c.self.inside.step).step < c.self.inside.shapes.now.steps = subst (λ (r : Stepper). r.state.step < r.scene.steps) (sym c.self.view_is) c.requires.goes_on in
    omega (arith, lt, plain-number c.self.inside.shapes.now c.self.inside.step (state_at c.self.inside.shapes.now c.self.inside.step) c.self.invariant.0.plain, c.self.invariant.0.scene.steps)

pub advance_all-requires-clause-matrices : goal.advance_all-requires-clause-matrices
advance_all-requires-clause-matrices g c =
    subst (λ (bs : List Body). AreMatrices c.self.inside.shapes.now bs c.make.new.self.spheres.matrices) (sym (c.as_slice-2.ensures ∙ c.make.ensures.bodies_are)) c.make.ensures.matrices_are

pub advance_all-requires-clause-loads : goal.advance_all-requires-clause-loads
advance_all-requires-clause-loads g c =
    let size : length c.meet_unless.new.loads ≡ c.self.inside.loads.len = omega (arith, c.meet_unless.auto.loads, c.as_mut_slice.ensures.len) in
    let pairs = (usable c.self.inside.shapes.now c.self.inside.drift c.self.inside.step c.self.inside.listed c.self.inside.bodies c.self.inside.contacts c.self.invariant.0
    (subst (λ (r : Stepper). IsSomeAnd r.from (λ from. r.state.step ≤ from + r.drift)) (sym c.self.view_is) c.requires.listed)).pairs in
    subst (AreLoads c.self.inside.shapes.now) (sym (c.as_slice-3.ensures.value ∙ with_items_is c.self.inside.loads c.meet_unless.new.loads size))
    (loads-met-all c.self.inside.shapes.now _ c.make.new.self.spheres.centers (held_by c.self.inside.contacts) c.self.inside.contacts.list.pairs c.meet_unless.new.loads c.meet_unless.new.fresh pairs c.meet_unless.ensures.met)

pub invariant_of-self-in-Err : goal.invariant_of-self-in-Err
invariant_of-self-in-Err g c =
    let can : IsUsable c.self.inside.shapes.now c.self.inside.drift c.self.inside.step c.self.inside.contacts.list =
    usable c.self.inside.shapes.now c.self.inside.drift c.self.inside.step c.self.inside.listed c.self.inside.bodies c.self.inside.contacts c.self.invariant.0 (subst (λ (r : Stepper). IsSomeAnd r.from (λ from. r.state.step ≤ from + r.drift)) (sym c.self.view_is) c.requires.listed) in
    let filled : c.make.new.self.spheres.centers ≡ centers_of c.self.inside.shapes.now c.self.inside.bodies = c.make.ensures.centers_are in
    let met : HaveMet c.self.inside.shapes.now c.self.inside.bodies c.make.new.self.spheres.centers (held_by c.self.inside.contacts) c.self.inside.contacts.list.pairs c.meet_unless.new.loads c.meet_unless.new.fresh =
    subst (λ (bs : List Body). HaveMet c.self.inside.shapes.now bs c.make.new.self.spheres.centers (held_by c.self.inside.contacts) c.self.inside.contacts.list.pairs c.meet_unless.new.loads c.meet_unless.new.fresh) (c.as_slice.ensures ∙ c.make.ensures.bodies_are) c.meet_unless.ensures.met in
    let start = about c.self.inside.shapes.now c.self.inside.drift c.self.inside.step c.self.inside.listed c.self.inside.bodies c.self.inside.contacts c.make.new.self.spheres.centers c.meet_unless.new.loads c.meet_unless.new.fresh c.self.invariant.0 can filled met in
    let size : length c.meet_unless.new.loads ≡ c.self.inside.loads.len = omega (arith, c.meet_unless.auto.loads, c.as_mut_slice.ensures.len) in
    let loads : c.as_slice-3.result.now ≡ c.meet_unless.new.loads = c.as_slice-3.ensures.value ∙ with_items_is c.self.inside.loads c.meet_unless.new.loads size in
    let fresh_size : length c.meet_unless.new.fresh ≡ c.self.inside.fresh.len = omega (arith, c.meet_unless.auto.fresh, c.as_mut_slice-2.ensures.len) in
    let load_count : length c.meet_unless.new.loads ≡ length c.self.inside.shapes.now.clumps = omega (arith, size, ap length c.as_mut_slice.ensures.value, c.meet_unless.auto.loads, c.self.invariant.1.load_each) in
    let fresh_count : length c.self.inside.contacts.list.pairs ≤ length c.meet_unless.new.fresh = omega (arith, ap length c.as_mut_slice-2.ensures.value, c.meet_unless.auto.fresh, c.self.invariant.1.entry_each) in
    let from : c.from.result ≡ c.self.inside.contacts.list.from = c.from.ensures ∙ ap (λ (l : Pairs). l.from) c.list.ensures.value in
    let stay : StayMarked c.self.inside.shapes.now c.self.inside.step (c.self.inside.contacts.list.from + c.self.inside.drift) c.self.inside.contacts.list.pairs c.renew_unless.new.self =
    marks_renewed c.self.inside.shapes.now c.self.inside.step c.steps_left-left.result (c.self.inside.contacts.list.from + c.self.inside.drift) c.self.inside.contacts.list.pairs c.self.inside.marks c.renew_unless.new.self
    c.self.inside.bodies c.make.new.self.spheres.centers c.self.invariant.0.scene c.self.invariant.3 (c.steps_left-left.ensures.value ∙ ap (λ n. n + c.self.inside.drift) from) c.self.invariant.0.plain c.self.invariant.0.bodies_are c.make.ensures.centers_are
    can.pairs.each c.renew_unless.ensures.room
    (subst (λ (l : Pairs). AreRenewed c.self.inside.shapes.now c.steps_left-left.result c.make.new.self.spheres.centers l.pairs c.self.inside.marks c.renew_unless.new.self) c.list-2.ensures.value c.renew_unless.ensures.right) in (
      c.self.invariant.0,
      record {
        load_each = ap length (with_items_is c.self.inside.loads c.meet_unless.new.loads size) ∙ load_count;
        body_each = c.advance_all.ensures.room;
        entry_each = subst (λ (es : List (Option Vec3)). length c.self.inside.contacts.list.pairs ≤ length es) (sym (with_items_is c.self.inside.fresh c.meet_unless.new.fresh fresh_size)) fresh_count;
      },
      prepared_kept _ _ _ c.self.invariant.0.sound c.make.ensures,
      stay,
      λ (is : c.self.inside.met ≡ true).
          ahead-of c.self.inside.shapes.now c.self.inside.listed c.self.inside.bodies _ c.make.new.self.spheres.centers c.self.inside.contacts c.meet_unless.new.loads _ c.meet_unless.new.fresh _
          (c.self.invariant.4 is).in_use (c.as_slice.ensures ∙ c.make.ensures.bodies_are) filled
          (with_items_is c.self.inside.loads c.meet_unless.new.loads size) (with_items_is c.self.inside.fresh c.meet_unless.new.fresh fresh_size) c.meet_unless.ensures.met,
    )

pub returns-in-Err-clause-step : goal.returns-in-Err-clause-step
returns-in-Err-clause-step g c =
    let can : IsUsable c.self.inside.shapes.now c.self.inside.drift c.self.inside.step c.self.inside.contacts.list =
    usable c.self.inside.shapes.now c.self.inside.drift c.self.inside.step c.self.inside.listed c.self.inside.bodies c.self.inside.contacts c.self.invariant.0 (subst (λ (r : Stepper). IsSomeAnd r.from (λ from. r.state.step ≤ from + r.drift)) (sym c.self.view_is) c.requires.listed) in
    let filled : c.make.new.self.spheres.centers ≡ centers_of c.self.inside.shapes.now c.self.inside.bodies = c.make.ensures.centers_are in
    let met : HaveMet c.self.inside.shapes.now c.self.inside.bodies c.make.new.self.spheres.centers (held_by c.self.inside.contacts) c.self.inside.contacts.list.pairs c.meet_unless.new.loads c.meet_unless.new.fresh =
    subst (λ (bs : List Body). HaveMet c.self.inside.shapes.now bs c.make.new.self.spheres.centers (held_by c.self.inside.contacts) c.self.inside.contacts.list.pairs c.meet_unless.new.loads c.meet_unless.new.fresh) (c.as_slice.ensures ∙ c.make.ensures.bodies_are) c.meet_unless.ensures.met in
    let start = about c.self.inside.shapes.now c.self.inside.drift c.self.inside.step c.self.inside.listed c.self.inside.bodies c.self.inside.contacts c.make.new.self.spheres.centers c.meet_unless.new.loads c.meet_unless.new.fresh c.self.invariant.0 can filled met in
    let size : length c.meet_unless.new.loads ≡ c.self.inside.loads.len = omega (arith, c.meet_unless.auto.loads, c.as_mut_slice.ensures.len) in
    let loads : c.as_slice-3.result.now ≡ c.meet_unless.new.loads = c.as_slice-3.ensures.value ∙ with_items_is c.self.inside.loads c.meet_unless.new.loads size in
    let ended : advanced_from c.self.inside.shapes.now (c.self.inside.step + 1) 0 c.self.inside.shapes.now.clumps c.self.inside.bodies c.meet_unless.new.loads ≡ Err c.in-Err.end =
    subst (λ (ws : List Load). advanced_from c.self.inside.shapes.now (c.self.inside.step + 1) 0 c.self.inside.shapes.now.clumps c.self.inside.bodies ws ≡ Err c.in-Err.end) loads
    (subst (λ (bs : List Body). advanced_from c.self.inside.shapes.now (c.self.inside.step + 1) 0 c.self.inside.shapes.now.clumps bs c.as_slice-3.result.now ≡ Err c.in-Err.end) (c.as_slice-2.ensures ∙ c.make.ensures.bodies_are) c.in-Err.ensures.ended) in (
      subst (λ (r : Stepper). step_of r.scene r.state ≡ Err c.in-Err.end) c.self.view_is
          (step-ends c.self.inside.shapes.now c.self.inside.drift c.self.inside.step c.self.inside.bodies c.in-Err.end c.self.inside.contacts c.make.new.self.spheres.centers c.meet_unless.new.loads c.meet_unless.new.fresh start ended),
      c.self.view_is,
    )

pub invariant_of-self : goal.invariant_of-self
invariant_of-self g c =
    let can : IsUsable c.self.inside.shapes.now c.self.inside.drift c.self.inside.step c.self.inside.contacts.list =
    usable c.self.inside.shapes.now c.self.inside.drift c.self.inside.step c.self.inside.listed c.self.inside.bodies c.self.inside.contacts c.self.invariant.0 (subst (λ (r : Stepper). IsSomeAnd r.from (λ from. r.state.step ≤ from + r.drift)) (sym c.self.view_is) c.requires.listed) in
    let filled : c.make.new.self.spheres.centers ≡ centers_of c.self.inside.shapes.now c.self.inside.bodies = c.make.ensures.centers_are in
    let met : HaveMet c.self.inside.shapes.now c.self.inside.bodies c.make.new.self.spheres.centers (held_by c.self.inside.contacts) c.self.inside.contacts.list.pairs c.meet_unless.new.loads c.meet_unless.new.fresh =
    subst (λ (bs : List Body). HaveMet c.self.inside.shapes.now bs c.make.new.self.spheres.centers (held_by c.self.inside.contacts) c.self.inside.contacts.list.pairs c.meet_unless.new.loads c.meet_unless.new.fresh) (c.as_slice.ensures ∙ c.make.ensures.bodies_are) c.meet_unless.ensures.met in
    let start = about c.self.inside.shapes.now c.self.inside.drift c.self.inside.step c.self.inside.listed c.self.inside.bodies c.self.inside.contacts c.make.new.self.spheres.centers c.meet_unless.new.loads c.meet_unless.new.fresh c.self.invariant.0 can filled met in
    let size : length c.meet_unless.new.loads ≡ c.self.inside.loads.len = omega (arith, c.meet_unless.auto.loads, c.as_mut_slice.ensures.len) in
    let loads : c.as_slice-3.result.now ≡ c.meet_unless.new.loads = c.as_slice-3.ensures.value ∙ with_items_is c.self.inside.loads c.meet_unless.new.loads size in
    let fresh_size : length c.meet_unless.new.fresh ≡ c.self.inside.fresh.len = omega (arith, c.meet_unless.auto.fresh, c.as_mut_slice-2.ensures.len) in
    let load_count : length c.meet_unless.new.loads ≡ length c.self.inside.shapes.now.clumps = omega (arith, size, ap length c.as_mut_slice.ensures.value, c.meet_unless.auto.loads, c.self.invariant.1.load_each) in
    let fresh_count : length c.self.inside.contacts.list.pairs ≤ length c.meet_unless.new.fresh = omega (arith, ap length c.as_mut_slice-2.ensures.value, c.meet_unless.auto.fresh, c.self.invariant.1.entry_each) in
    let number : (state_at c.self.inside.shapes.now c.self.inside.step).step ≡ c.self.inside.step = plain-number c.self.inside.shapes.now c.self.inside.step (state_at c.self.inside.shapes.now c.self.inside.step) c.self.invariant.0.plain in
    let below : c.self.inside.step < c.self.inside.shapes.now.steps = subst (λ n. n < c.self.inside.shapes.now.steps) number (subst (λ (r : Stepper). r.state.step < r.scene.steps) (sym c.self.view_is) c.requires.goes_on) in
    let advanced : advanced_from c.self.inside.shapes.now (c.self.inside.step + 1) 0 c.self.inside.shapes.now.clumps c.self.inside.bodies c.meet_unless.new.loads ≡ Ok c.advance_all.new.next =
    subst (λ (ws : List Load). advanced_from c.self.inside.shapes.now (c.self.inside.step + 1) 0 c.self.inside.shapes.now.clumps c.self.inside.bodies ws ≡ Ok c.advance_all.new.next) loads
    (subst (λ (bs : List Body). advanced_from c.self.inside.shapes.now (c.self.inside.step + 1) 0 c.self.inside.shapes.now.clumps bs c.as_slice-3.result.now ≡ Ok c.advance_all.new.next) (c.as_slice-2.ensures ∙ c.make.ensures.bodies_are) c.in-Ok.ensures.advanced) in
    let made : step_of c.self.inside.shapes.now (state_at c.self.inside.shapes.now c.self.inside.step) ≡ Ok (next_state (c.self.inside.step + 1) c.advance_all.new.next (kept_of c.self.inside.contacts.list.pairs c.meet_unless.new.fresh)) =
    step-made c.self.inside.shapes.now c.self.inside.drift c.self.inside.step c.self.inside.bodies c.advance_all.new.next c.self.inside.contacts c.make.new.self.spheres.centers c.meet_unless.new.loads c.meet_unless.new.fresh start advanced in
    let items = with_items_is c.self.inside.fresh c.meet_unless.new.fresh fresh_size in
    let taken : c.exchange.new.self ≡ record { list = c.self.inside.contacts.list; entries = take (length c.self.inside.contacts.list.pairs) c.meet_unless.new.fresh } =
    c.exchange.ensures.taken ∙ ap (λ (es : List (Option Vec3)). let h : HeldByPlace = record { list = c.self.inside.contacts.list; entries = take (length c.self.inside.contacts.list.pairs) es } in h) items in
    let from : c.from.result ≡ c.self.inside.contacts.list.from = c.from.ensures ∙ ap (λ (l : Pairs). l.from) c.list.ensures.value in
    let stay : StayMarked c.self.inside.shapes.now c.self.inside.step (c.self.inside.contacts.list.from + c.self.inside.drift) c.self.inside.contacts.list.pairs c.renew_unless.new.self =
    marks_renewed c.self.inside.shapes.now c.self.inside.step c.steps_left-left.result (c.self.inside.contacts.list.from + c.self.inside.drift) c.self.inside.contacts.list.pairs c.self.inside.marks c.renew_unless.new.self
    c.self.inside.bodies c.make.new.self.spheres.centers c.self.invariant.0.scene c.self.invariant.3 (c.steps_left-left.ensures.value ∙ ap (λ n. n + c.self.inside.drift) from) c.self.invariant.0.plain c.self.invariant.0.bodies_are c.make.ensures.centers_are
    can.pairs.each c.renew_unless.ensures.room
    (subst (λ (l : Pairs). AreRenewed c.self.inside.shapes.now c.steps_left-left.result c.make.new.self.spheres.centers l.pairs c.self.inside.marks c.renew_unless.new.self) c.list-2.ensures.value c.renew_unless.ensures.right) in (
      subst (λ (h : HeldByPlace). IsStepper c.self.inside.shapes.now c.self.inside.drift (c.self.inside.step + 1) c.self.inside.listed c.swap.new.x h) (sym taken)
          (subst (λ (bs : List Body). IsStepper c.self.inside.shapes.now c.self.inside.drift (c.self.inside.step + 1) c.self.inside.listed bs (record { list = c.self.inside.contacts.list; entries = take (length c.self.inside.contacts.list.pairs) c.meet_unless.new.fresh })) (sym c.swap.ensures.x_after)
          (stepper-next c.self.inside.shapes.now c.self.inside.drift c.self.inside.step c.self.inside.listed c.self.inside.bodies c.advance_all.new.next c.self.inside.contacts.list c.self.inside.contacts.entries c.meet_unless.new.fresh (held_by c.self.inside.contacts) c.make.new.self.spheres.centers c.meet_unless.new.loads
          c.self.invariant.0 below made c.in-Ok.ensures.sound fresh_count met)),
      record {
        load_each = ap length (with_items_is c.self.inside.loads c.meet_unless.new.loads size) ∙ load_count;
        body_each = ap length c.swap.ensures.y_after ∙ c.self.invariant.0.sound.count;
        entry_each = omega (arith, ap (λ (h : HeldByPlace). length h.list.pairs) taken, ap length c.exchange.ensures.given, c.self.invariant.0.contacts_are.as_many);
      },
      prepared_past c.self.inside.shapes.now c.self.inside.bodies _ c.make.new.self.unpacked c.make.new.self.spheres c.self.invariant.0.sound c.make.ensures,
      subst (λ (h : HeldByPlace). StayMarked c.self.inside.shapes.now (c.self.inside.step + 1) (h.list.from + c.self.inside.drift) h.list.pairs c.renew_unless.new.self) (sym taken)
          (marks_next c.self.inside.shapes.now c.self.inside.step (c.self.inside.contacts.list.from + c.self.inside.drift) c.self.inside.contacts.list.pairs c.renew_unless.new.self stay),
      λ (no : false ≡ true). cc,
    )

pub returns-in-Ok-clause-step : goal.returns-in-Ok-clause-step
returns-in-Ok-clause-step g c =
    let can : IsUsable c.self.inside.shapes.now c.self.inside.drift c.self.inside.step c.self.inside.contacts.list =
    usable c.self.inside.shapes.now c.self.inside.drift c.self.inside.step c.self.inside.listed c.self.inside.bodies c.self.inside.contacts c.self.invariant.0 (subst (λ (r : Stepper). IsSomeAnd r.from (λ from. r.state.step ≤ from + r.drift)) (sym c.self.view_is) c.requires.listed) in
    let filled : c.make.new.self.spheres.centers ≡ centers_of c.self.inside.shapes.now c.self.inside.bodies = c.make.ensures.centers_are in
    let met : HaveMet c.self.inside.shapes.now c.self.inside.bodies c.make.new.self.spheres.centers (held_by c.self.inside.contacts) c.self.inside.contacts.list.pairs c.meet_unless.new.loads c.meet_unless.new.fresh =
    subst (λ (bs : List Body). HaveMet c.self.inside.shapes.now bs c.make.new.self.spheres.centers (held_by c.self.inside.contacts) c.self.inside.contacts.list.pairs c.meet_unless.new.loads c.meet_unless.new.fresh) (c.as_slice.ensures ∙ c.make.ensures.bodies_are) c.meet_unless.ensures.met in
    let start = about c.self.inside.shapes.now c.self.inside.drift c.self.inside.step c.self.inside.listed c.self.inside.bodies c.self.inside.contacts c.make.new.self.spheres.centers c.meet_unless.new.loads c.meet_unless.new.fresh c.self.invariant.0 can filled met in
    let size : length c.meet_unless.new.loads ≡ c.self.inside.loads.len = omega (arith, c.meet_unless.auto.loads, c.as_mut_slice.ensures.len) in
    let loads : c.as_slice-3.result.now ≡ c.meet_unless.new.loads = c.as_slice-3.ensures.value ∙ with_items_is c.self.inside.loads c.meet_unless.new.loads size in
    let fresh_size : length c.meet_unless.new.fresh ≡ c.self.inside.fresh.len = omega (arith, c.meet_unless.auto.fresh, c.as_mut_slice-2.ensures.len) in
    let load_count : length c.meet_unless.new.loads ≡ length c.self.inside.shapes.now.clumps = omega (arith, size, ap length c.as_mut_slice.ensures.value, c.meet_unless.auto.loads, c.self.invariant.1.load_each) in
    let fresh_count : length c.self.inside.contacts.list.pairs ≤ length c.meet_unless.new.fresh = omega (arith, ap length c.as_mut_slice-2.ensures.value, c.meet_unless.auto.fresh, c.self.invariant.1.entry_each) in
    let number : (state_at c.self.inside.shapes.now c.self.inside.step).step ≡ c.self.inside.step = plain-number c.self.inside.shapes.now c.self.inside.step (state_at c.self.inside.shapes.now c.self.inside.step) c.self.invariant.0.plain in
    let below : c.self.inside.step < c.self.inside.shapes.now.steps = subst (λ n. n < c.self.inside.shapes.now.steps) number (subst (λ (r : Stepper). r.state.step < r.scene.steps) (sym c.self.view_is) c.requires.goes_on) in
    let advanced : advanced_from c.self.inside.shapes.now (c.self.inside.step + 1) 0 c.self.inside.shapes.now.clumps c.self.inside.bodies c.meet_unless.new.loads ≡ Ok c.advance_all.new.next =
    subst (λ (ws : List Load). advanced_from c.self.inside.shapes.now (c.self.inside.step + 1) 0 c.self.inside.shapes.now.clumps c.self.inside.bodies ws ≡ Ok c.advance_all.new.next) loads
    (subst (λ (bs : List Body). advanced_from c.self.inside.shapes.now (c.self.inside.step + 1) 0 c.self.inside.shapes.now.clumps bs c.as_slice-3.result.now ≡ Ok c.advance_all.new.next) (c.as_slice-2.ensures ∙ c.make.ensures.bodies_are) c.in-Ok.ensures.advanced) in
    let made : step_of c.self.inside.shapes.now (state_at c.self.inside.shapes.now c.self.inside.step) ≡ Ok (next_state (c.self.inside.step + 1) c.advance_all.new.next (kept_of c.self.inside.contacts.list.pairs c.meet_unless.new.fresh)) =
    step-made c.self.inside.shapes.now c.self.inside.drift c.self.inside.step c.self.inside.bodies c.advance_all.new.next c.self.inside.contacts c.make.new.self.spheres.centers c.meet_unless.new.loads c.meet_unless.new.fresh start advanced in
    let items = with_items_is c.self.inside.fresh c.meet_unless.new.fresh fresh_size in
    let taken : c.exchange.new.self ≡ record { list = c.self.inside.contacts.list; entries = take (length c.self.inside.contacts.list.pairs) c.meet_unless.new.fresh } =
    c.exchange.ensures.taken ∙ ap (λ (es : List (Option Vec3)). let h : HeldByPlace = record { list = c.self.inside.contacts.list; entries = take (length c.self.inside.contacts.list.pairs) es } in h) items in
    let next : state_at c.self.inside.shapes.now (c.self.inside.step + 1) ≡ next_state (c.self.inside.step + 1) c.advance_all.new.next (kept_of c.self.inside.contacts.list.pairs c.meet_unless.new.fresh) =
    state-next c.self.inside.shapes.now c.self.inside.step c.advance_all.new.next (kept_of c.self.inside.contacts.list.pairs c.meet_unless.new.fresh) c.self.invariant.0.plain below made in
    record {
      step = subst (λ (r : Stepper). step_of r.scene r.state ≡ Ok (state_at c.self.inside.shapes.now (c.self.inside.step + 1))) c.self.view_is (made ∙ ap Ok (sym next));
      held = ap held_by taken ∙ kept_of-take c.self.inside.contacts.list.pairs c.meet_unless.new.fresh ∙ ap (λ (x : State). x.held) (sym next);
      list = ap (λ (h : HeldByPlace). h.list) taken ∙ ap (λ (r : Stepper). r.contacts.list) c.self.view_is;
      from = ap (λ (h : HeldByPlace). from_of c.self.inside.listed h.list.from) taken ∙ ap (λ (r : Stepper). r.from) c.self.view_is;
      scene = ap (λ (r : Stepper). r.scene) c.self.view_is;
      drift = ap (λ (r : Stepper). r.drift) c.self.view_is;
    }
