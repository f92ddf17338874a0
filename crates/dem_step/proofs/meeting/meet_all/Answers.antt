use Rattle.std.proofs.Common.{◌≡◌, ◌<◌, false, length, refl, sym, ap, ◌∙◌, subst, arith, Option, Some, None}
use Rattle.std.specs.Prelude.{slice_get}
use Rattle.std.proofs.lemmas.Option.{get_or_from_slice_get}
use Rattle.dem_num.specs.declared.vector.Vec3.{Vec3}
use Rattle.dem_model.specs.Motion.{IsPair}
use Rattle.dem_model.specs.Step.{held_at}
use Rattle.dem_force.specs.Stored.{IsStored}
use Rattle.dem_list.specs.Ascending.{IsAscending, Pairs}
use Rattle.dem_hist.proofs.CarryFacts.{entry-here}
use Rattle.dem_step.specs.Contacts.{held_by}
use Rattle.dem_step.specs.Marks.{is_met}
use Rattle.dem_step.proofs.RoomFacts.{all-read, length-set}
use Rattle.dem_step.proofs.MetFacts.{HaveMet-none, HaveMet-more, HaveMet-unmet, loads-met}
use Rattle.dem_step.proofs.meeting.meet_all.Goals as goal
use Rattle.dem_step.proofs.meeting.meet_all.Goals.{then-is_met, else-is_met}

pub loop-i-init : goal.loop-i-init
loop-i-init g c =
    (HaveMet-none c.args.shapes.now c.args.bodies.now c.args.spheres.now.centers (held_by c.args.contacts.now) (length c.args.loads.now) c.clear.new.loads c.args.fresh.now c.clear.ensures c.requires.loads, refl, omega arith)

pub meet-requires-clause-pair : goal.meet-requires-clause-pair
meet-requires-clause-pair g c =
    all-read (IsPair c.args.shapes.now) c.args.contacts.now.list.pairs c.loop-i.i c.get-pair.result c.requires.pairs.each
    (ap (λ (l : Pairs). slice_get l.pairs c.loop-i.i) (sym c.list-then-is_met.ensures.value) ∙ c.get-pair.ensures)

pub meet-requires-clause-held : goal.meet-requires-clause-held
meet-requires-clause-held g c =
    all-read (λ (e : Option Vec3). IsStored e) c.args.contacts.now.entries c.loop-i.i c.held-held.result c.requires.within c.held-held.ensures

pub meet-requires-clause-loads : goal.meet-requires-clause-loads
meet-requires-clause-loads g c =
    loads-met c.args.shapes.now c.args.bodies.now c.args.spheres.now.centers (held_by c.args.contacts.now) c.args.contacts.now.list.pairs c.loop-i.i c.loop-i.loads c.loop-i.fresh c.requires.pairs c.loop-i.invariant.0

pub loop-i-preserved : goal.loop-i-preserved
loop-i-preserved g c =
    let lt : c.loop-i.i < length c.args.contacts.now.list.pairs = omega (arith, c.loop-i-test.true, c.len-i-end.ensures.value, ap (λ (l : Pairs). length l.pairs) c.list.ensures.value) in
    let room : c.loop-i.i < length c.loop-i.fresh = omega (arith, lt, c.requires.fresh, c.loop-i.invariant.1) in
    let ascends : IsAscending c.args.contacts.now.list.pairs = subst (λ (l : Pairs). IsAscending l.pairs) c.list.ensures.value c.len-i-end.ensures.ascending in
    elim c.if-is_met.branch [
      | then-is_met w ↦
          let there : slice_get c.args.contacts.now.list.pairs c.loop-i.i ≡ Some w.get-pair.result =
          ap (λ (l : Pairs). slice_get l.pairs c.loop-i.i) (sym w.list-then-is_met.ensures.value) ∙ w.get-pair.ensures in
          let held : held_at (held_by c.args.contacts.now) w.get-pair.result ≡ w.held-held.result =
          entry-here c.args.contacts.now.list.pairs c.args.contacts.now.entries c.loop-i.i w.get-pair.result ascends c.list.ensures.as_many lt
          (λ d. get_or_from_slice_get c.args.contacts.now.list.pairs c.loop-i.i w.get-pair.result d there)
          ∙ get_or_from_slice_get c.args.contacts.now.entries c.loop-i.i w.held-held.result None w.held-held.ensures in
          rw (w.loads-is, w.fresh-is, w.tests-is) (
            HaveMet-more c.args.shapes.now c.args.bodies.now c.args.spheres.now.centers (held_by c.args.contacts.now) c.args.contacts.now.list.pairs c.loop-i.i w.get-pair.result w.held-held.result
                c.loop-i.loads w.meet.new.loads c.loop-i.fresh w.meet.result there held room w.meet.ensures.loads w.meet.ensures.entry w.meet.ensures.small c.loop-i.invariant.0,
            length-set c.loop-i.fresh c.loop-i.i w.meet.result ∙ c.loop-i.invariant.1,
            omega (arith, w.meet.ensures.counted, c.loop-i.invariant.2),
          )
      | else-is_met w ↦
          let unmet : is_met c.args.marks.now c.loop-i.i ≡ false = sym c.is_met.ensures ∙ w.if-is_met.false in
          rw (w.loads-is, w.fresh-is, w.tests-is) (
            HaveMet-unmet c.args.shapes.now c.args.bodies.now c.args.spheres.now.centers (held_by c.args.contacts.now) c.args.contacts.now.list.pairs c.args.marks.now c.loop-i.i
                c.loop-i.loads c.loop-i.fresh c.requires.marked unmet lt room c.loop-i.invariant.0,
            length-set c.loop-i.fresh c.loop-i.i None ∙ c.loop-i.invariant.1,
            omega (arith, c.loop-i.invariant.2),
          )
    ]
