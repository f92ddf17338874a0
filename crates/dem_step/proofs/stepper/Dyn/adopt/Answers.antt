use Rattle.std.proofs.Common.{◌≡◌, ◌+◌, ◌≤◌, length, true, Some, refl, sym, ap, ◌∙◌, subst, arith}
use Rattle.std.proofs.lemmas.List.{with_items_is}
use Rattle.dem_model.specs.Carry.{carried, Agrees}
use Rattle.dem_model.specs.Motion.{AreInside}
use Rattle.dem_model.proofs.SoundFacts.{centers_of-inside}
use Rattle.dem_hist.specs.Carrying.{HeldByPlace}
use Rattle.dem_step.specs.Contacts.{held_by}
use Rattle.dem_step.specs.Stepper.{Stepper, state_at, IsListOfRun}
use Rattle.dem_step.specs.Inside.{IsStepper}
use Rattle.dem_step.proofs.StepFacts.{plain-number}
use Rattle.dem_step.proofs.HandFacts.{ahead-of, can-hand-on}
use Rattle.dem_step.proofs.KeptFacts.{stepper-adopts}
use Rattle.dem_step.proofs.MarkFacts.{marks_none}
use Rattle.dem_step.proofs.PreparedFacts.{prepared_kept}
use Rattle.dem_step.proofs.stepper.Dyn.adopt.Goals as goal

pub hand_on-requires-clause-room : goal.hand_on-requires-clause-room
hand_on-requires-clause-room c = omega (arith, ap (λ (h : HeldByPlace). length h.list.pairs) c.in-Ok.ensures.carried, c.len.ensures.value, c.in_default.ensures.room)

pub hand_on-requires-clause-centers : goal.hand_on-requires-clause-centers
hand_on-requires-clause-centers c =
    subst (AreInside c.self.inside.shapes.now) (sym c.make.ensures.centers_are)
    (centers_of-inside c.self.inside.shapes.now c.self.inside.bodies c.self.invariant.0.scene c.self.invariant.0.sound)

pub hand_on-requires-clause-pairs : goal.hand_on-requires-clause-pairs
hand_on-requires-clause-pairs c =
    let near : IsListOfRun c.self.inside.shapes.now c.self.inside.drift c.args.list = subst (λ (r : Stepper). IsListOfRun r.scene r.drift c.args.list) (sym c.self.view_is) c.requires.near in
    let number : (state_at c.self.inside.shapes.now c.self.inside.step).step ≡ c.self.inside.step =
    plain-number c.self.inside.shapes.now c.self.inside.step (state_at c.self.inside.shapes.now c.self.inside.step) c.self.invariant.0.plain in
    let past : c.args.list.from ≤ c.self.inside.step = subst (λ n. c.args.list.from ≤ n) (sym (ap (λ (r : Stepper). r.state.step) c.self.view_is) ∙ number) c.requires.in_time.past in
    let young : c.self.inside.step ≤ c.args.list.from + c.self.inside.drift =
    subst (λ n. n ≤ c.args.list.from + c.self.inside.drift) number (subst (λ (r : Stepper). r.state.step ≤ c.args.list.from + r.drift) (sym c.self.view_is) c.requires.in_time.young) in
    let after : IsStepper c.self.inside.shapes.now c.self.inside.drift c.self.inside.step true c.self.inside.bodies c.carry.new.self =
    subst (IsStepper c.self.inside.shapes.now c.self.inside.drift c.self.inside.step true c.self.inside.bodies) (sym c.in-Ok.ensures.carried)
    (stepper-adopts c.self.inside.shapes.now c.self.inside.drift c.self.inside.step c.self.inside.listed c.self.inside.bodies c.self.inside.contacts.list c.args.list c.self.inside.contacts.entries
    c.self.invariant.0 near c.len.ensures.ascending past young) in
    after.contacts_are.pairs

pub hand_on-requires-clause-within : goal.hand_on-requires-clause-within
hand_on-requires-clause-within c =
    let near : IsListOfRun c.self.inside.shapes.now c.self.inside.drift c.args.list = subst (λ (r : Stepper). IsListOfRun r.scene r.drift c.args.list) (sym c.self.view_is) c.requires.near in
    let number : (state_at c.self.inside.shapes.now c.self.inside.step).step ≡ c.self.inside.step =
    plain-number c.self.inside.shapes.now c.self.inside.step (state_at c.self.inside.shapes.now c.self.inside.step) c.self.invariant.0.plain in
    let past : c.args.list.from ≤ c.self.inside.step = subst (λ n. c.args.list.from ≤ n) (sym (ap (λ (r : Stepper). r.state.step) c.self.view_is) ∙ number) c.requires.in_time.past in
    let young : c.self.inside.step ≤ c.args.list.from + c.self.inside.drift =
    subst (λ n. n ≤ c.args.list.from + c.self.inside.drift) number (subst (λ (r : Stepper). r.state.step ≤ c.args.list.from + r.drift) (sym c.self.view_is) c.requires.in_time.young) in
    let after : IsStepper c.self.inside.shapes.now c.self.inside.drift c.self.inside.step true c.self.inside.bodies c.carry.new.self =
    subst (IsStepper c.self.inside.shapes.now c.self.inside.drift c.self.inside.step true c.self.inside.bodies) (sym c.in-Ok.ensures.carried)
    (stepper-adopts c.self.inside.shapes.now c.self.inside.drift c.self.inside.step c.self.inside.listed c.self.inside.bodies c.self.inside.contacts.list c.args.list c.self.inside.contacts.entries
    c.self.invariant.0 near c.len.ensures.ascending past young) in
    after.contacts_are.stored

pub hand_on-requires-clause-may : goal.hand_on-requires-clause-may
hand_on-requires-clause-may c = λ (is : c.self.inside.met ≡ true).
    let near : IsListOfRun c.self.inside.shapes.now c.self.inside.drift c.args.list = subst (λ (r : Stepper). IsListOfRun r.scene r.drift c.args.list) (sym c.self.view_is) c.requires.near in
    let number : (state_at c.self.inside.shapes.now c.self.inside.step).step ≡ c.self.inside.step =
    plain-number c.self.inside.shapes.now c.self.inside.step (state_at c.self.inside.shapes.now c.self.inside.step) c.self.invariant.0.plain in
    let past : c.args.list.from ≤ c.self.inside.step = subst (λ n. c.args.list.from ≤ n) (sym (ap (λ (r : Stepper). r.state.step) c.self.view_is) ∙ number) c.requires.in_time.past in
    let young : c.self.inside.step ≤ c.args.list.from + c.self.inside.drift =
    subst (λ n. n ≤ c.args.list.from + c.self.inside.drift) number (subst (λ (r : Stepper). r.state.step ≤ c.args.list.from + r.drift) (sym c.self.view_is) c.requires.in_time.young) in
    can-hand-on c.self.inside.shapes.now c.self.inside.drift c.self.inside.step c.self.inside.listed c.self.inside.bodies _ c.make.new.self.spheres.centers c.self.inside.contacts c.carry.new.self
    c.in-Ok.old c.args.list _ c.self.inside.loads.items _ c.self.inside.fresh.items
    c.self.invariant.0 near c.len.ensures.ascending past young (c.as_slice.ensures ∙ c.make.ensures.bodies_are) c.make.ensures.centers_are c.as_mut_slice.ensures.value refl
    c.self.invariant.1.entry_each c.in-Ok.ensures.old_list c.in-Ok.ensures.carried (c.self.invariant.4 is)

pub invariant_of-self-in-Ok : goal.invariant_of-self-in-Ok
invariant_of-self-in-Ok c =
    let near : IsListOfRun c.self.inside.shapes.now c.self.inside.drift c.args.list = subst (λ (r : Stepper). IsListOfRun r.scene r.drift c.args.list) (sym c.self.view_is) c.requires.near in
    let number : (state_at c.self.inside.shapes.now c.self.inside.step).step ≡ c.self.inside.step =
    plain-number c.self.inside.shapes.now c.self.inside.step (state_at c.self.inside.shapes.now c.self.inside.step) c.self.invariant.0.plain in
    let past : c.args.list.from ≤ c.self.inside.step = subst (λ n. c.args.list.from ≤ n) (sym (ap (λ (r : Stepper). r.state.step) c.self.view_is) ∙ number) c.requires.in_time.past in
    let young : c.self.inside.step ≤ c.args.list.from + c.self.inside.drift =
    subst (λ n. n ≤ c.args.list.from + c.self.inside.drift) number (subst (λ (r : Stepper). r.state.step ≤ c.args.list.from + r.drift) (sym c.self.view_is) c.requires.in_time.young) in
    let after : IsStepper c.self.inside.shapes.now c.self.inside.drift c.self.inside.step true c.self.inside.bodies c.carry.new.self =
    subst (IsStepper c.self.inside.shapes.now c.self.inside.drift c.self.inside.step true c.self.inside.bodies) (sym c.in-Ok.ensures.carried)
    (stepper-adopts c.self.inside.shapes.now c.self.inside.drift c.self.inside.step c.self.inside.listed c.self.inside.bodies c.self.inside.contacts.list c.args.list c.self.inside.contacts.entries
    c.self.invariant.0 near c.len.ensures.ascending past young) in
    let size : length c.hand_on.new.loads ≡ c.self.inside.loads.len = omega (arith, c.hand_on.auto.loads, c.as_mut_slice.ensures.len) in
    let load_count : length c.hand_on.new.loads ≡ length c.self.inside.shapes.now.clumps = omega (arith, size, ap length c.as_mut_slice.ensures.value, c.hand_on.auto.loads, c.self.invariant.1.load_each) in (
      after,
      record {
        load_each = ap length (with_items_is c.self.inside.loads c.hand_on.new.loads size) ∙ load_count;
        body_each = c.self.invariant.1.body_each;
        entry_each = c.hand_on.ensures.room;
      },
      prepared_kept _ _ _ c.self.invariant.0.sound c.make.ensures,
      marks_none c.self.inside.shapes.now c.self.inside.step _ c.carry.new.self.list.pairs c.forget.new.self c.forget.ensures.none
          (omega (arith, ap (λ (h : HeldByPlace). length h.list.pairs) c.in-Ok.ensures.carried, c.len-2.ensures.value, c.in_default-forget.ensures.room)),
      λ (is : c.self.inside.met ≡ true).
          ahead-of c.self.inside.shapes.now true c.self.inside.bodies _ c.make.new.self.spheres.centers c.carry.new.self c.hand_on.new.loads _ c.hand_on.new.fresh.items _
          refl (c.as_slice.ensures ∙ c.make.ensures.bodies_are) c.make.ensures.centers_are
          (with_items_is c.self.inside.loads c.hand_on.new.loads size) refl (c.hand_on.ensures.met is),
    )

pub returns-in-Ok-clause-kept : goal.returns-in-Ok-clause-kept
returns-in-Ok-clause-kept c =
    let near : IsListOfRun c.self.inside.shapes.now c.self.inside.drift c.args.list = subst (λ (r : Stepper). IsListOfRun r.scene r.drift c.args.list) (sym c.self.view_is) c.requires.near in
    let number : (state_at c.self.inside.shapes.now c.self.inside.step).step ≡ c.self.inside.step =
    plain-number c.self.inside.shapes.now c.self.inside.step (state_at c.self.inside.shapes.now c.self.inside.step) c.self.invariant.0.plain in
    let past : c.args.list.from ≤ c.self.inside.step = subst (λ n. c.args.list.from ≤ n) (sym (ap (λ (r : Stepper). r.state.step) c.self.view_is) ∙ number) c.requires.in_time.past in
    let young : c.self.inside.step ≤ c.args.list.from + c.self.inside.drift =
    subst (λ n. n ≤ c.args.list.from + c.self.inside.drift) number (subst (λ (r : Stepper). r.state.step ≤ c.args.list.from + r.drift) (sym c.self.view_is) c.requires.in_time.young) in
    let kept : Agrees c.self.inside.shapes.now (state_at c.self.inside.shapes.now c.self.inside.step) (held_by c.carry.new.self) =
    subst (λ (h : HeldByPlace). Agrees c.self.inside.shapes.now (state_at c.self.inside.shapes.now c.self.inside.step) (held_by h)) (sym c.in-Ok.ensures.carried)
    (stepper-adopts c.self.inside.shapes.now c.self.inside.drift c.self.inside.step c.self.inside.listed c.self.inside.bodies c.self.inside.contacts.list c.args.list c.self.inside.contacts.entries
    c.self.invariant.0 near c.len.ensures.ascending past young).agrees in
    subst (λ (r : Stepper). Agrees r.scene r.state (held_by c.carry.new.self)) c.self.view_is kept

pub returns-in-Ok-clause-taken : goal.returns-in-Ok-clause-taken
returns-in-Ok-clause-taken c = record {
  from = ap (λ (h : HeldByPlace). Some h.list.from) c.in-Ok.ensures.carried;
  list_is = ap (λ (h : HeldByPlace). h.list) c.in-Ok.ensures.carried;
  entries = ap (λ (h : HeldByPlace). h.entries) c.in-Ok.ensures.carried ∙ ap (λ (r : Stepper). carried r.contacts.list.pairs r.contacts.entries c.args.list.pairs) c.self.view_is;
  state = ap (λ (r : Stepper). r.state) c.self.view_is;
  scene = ap (λ (r : Stepper). r.scene) c.self.view_is;
  drift = ap (λ (r : Stepper). r.drift) c.self.view_is;
}
