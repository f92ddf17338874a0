use Rattle.std.proofs.Common.{◌≡◌, ◌≤◌, List, length, true, Option, sym, ap, ◌∙◌, subst, arith}
use Rattle.std.proofs.lemmas.List.{with_items_is}
use Rattle.dem_num.specs.declared.vector.Vec3.{Vec3}
use Rattle.dem_model.specs.Motion.{AreInside}
use Rattle.dem_model.proofs.SoundFacts.{centers_of-inside}
use Rattle.dem_step.proofs.HandFacts.{ahead-of}
use Rattle.dem_step.proofs.MarkFacts.{marks_none}
use Rattle.dem_step.proofs.PreparedFacts.{prepared_kept}
use Rattle.dem_step.proofs.stepper.Dyn.prepare.Goals as goal

pub invariant_of-self : goal.invariant_of-self
invariant_of-self c = (c.self.invariant.0, c.self.invariant.1, prepared_kept _ _ _ c.self.invariant.0.sound c.make.ensures, c.self.invariant.3, c.self.invariant.4)

pub invariant_of-self-then-not-self : goal.invariant_of-self-then-not-self
invariant_of-self-then-not-self c = (c.self.invariant.0, c.self.invariant.1, prepared_kept _ _ _ c.self.invariant.0.sound c.make.ensures, c.self.invariant.3, c.self.invariant.4)

pub meet_uncounted-requires-clause-centers : goal.meet_uncounted-requires-clause-centers
meet_uncounted-requires-clause-centers c =
    subst (AreInside c.self.inside.shapes.now) (sym c.make.ensures.centers_are)
    (centers_of-inside c.self.inside.shapes.now c.self.inside.bodies c.self.invariant.0.scene c.self.invariant.0.sound)

pub invariant_of-self-2 : goal.invariant_of-self-2
invariant_of-self-2 c =
    let size : length c.meet_uncounted.new.loads ≡ c.self.inside.loads.len = omega (arith, c.meet_uncounted.auto.loads, c.as_mut_slice.ensures.len) in
    let fresh_size : length c.meet_uncounted.new.fresh ≡ c.self.inside.fresh.len = omega (arith, c.meet_uncounted.auto.fresh, c.as_mut_slice-2.ensures.len) in
    let load_count : length c.meet_uncounted.new.loads ≡ length c.self.inside.shapes.now.clumps = omega (arith, size, ap length c.as_mut_slice.ensures.value, c.meet_uncounted.auto.loads, c.self.invariant.1.load_each) in
    let fresh_count : length c.self.inside.contacts.list.pairs ≤ length c.meet_uncounted.new.fresh = omega (arith, ap length c.as_mut_slice-2.ensures.value, c.meet_uncounted.auto.fresh, c.self.invariant.1.entry_each) in
    let loads = with_items_is c.self.inside.loads c.meet_uncounted.new.loads size in
    let fresh = with_items_is c.self.inside.fresh c.meet_uncounted.new.fresh fresh_size in (
      c.self.invariant.0,
      record {
        load_each = ap length loads ∙ load_count;
        body_each = c.self.invariant.1.body_each;
        entry_each = subst (λ (es : List (Option Vec3)). length c.self.inside.contacts.list.pairs ≤ length es) (sym fresh) fresh_count;
      },
      prepared_kept _ _ _ c.self.invariant.0.sound c.make.ensures,
      marks_none c.self.inside.shapes.now c.self.inside.step _ c.self.inside.contacts.list.pairs c.clear.new.self c.clear.ensures.none (omega (arith, c.self.invariant.3.room, ap (λ v. length v.items) c.clear.ensures.room)),
      λ (is : true ≡ true).
          ahead-of c.self.inside.shapes.now c.self.inside.listed c.self.inside.bodies _ c.make.new.self.spheres.centers c.self.inside.contacts c.meet_uncounted.new.loads _ c.meet_uncounted.new.fresh _
          c.if-not-self.false (c.as_slice.ensures ∙ c.make.ensures.bodies_are) c.make.ensures.centers_are loads fresh c.meet_uncounted.ensures.met,
    )
