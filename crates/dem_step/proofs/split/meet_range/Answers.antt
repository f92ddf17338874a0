use Rattle.std.proofs.Common.{◌≡◌, ◌-◌, ◌<◌, false, length, refl, sym, ap, ◌∙◌, arith, Option, Some, None}
use Rattle.std.specs.Prelude.{slice_get}
use Rattle.std.proofs.lemmas.Option.{get_or_from_slice_get}
use Rattle.dem_num.specs.declared.vector.Vec3.{Vec3}
use Rattle.dem_model.specs.Motion.{IsPair}
use Rattle.dem_model.specs.Step.{held_at}
use Rattle.dem_force.specs.Stored.{IsStored}
use Rattle.dem_list.specs.Ascending.{Pairs}
use Rattle.dem_hist.proofs.CarryFacts.{entry-here}
use Rattle.dem_step.specs.Contacts.{held_by}
use Rattle.dem_step.specs.Marks.{is_met}
use Rattle.dem_step.proofs.FeltFacts.{felt-none, felt-more}
use Rattle.dem_step.proofs.RoomFacts.{all-read, length-set}
use Rattle.dem_step.proofs.SplitFacts.{between-none, between-more, between-unmet, loads-between}
use Rattle.dem_step.proofs.split.meet_range.Goals as goal
use Rattle.dem_step.proofs.split.meet_range.Goals.{then-is_met, else-is_met}

pub loop-i-init : goal.loop-i-init
loop-i-init c = (
  between-none c.args.shapes.now c.args.bodies.now c.args.spheres.now.centers (held_by c.args.contacts.now) c.args.from (length c.args.loads.now) c.args.contacts.now.list.pairs c.clear.new.loads c.args.fresh.now
      c.clear.ensures c.requires.loads,
  refl,
  omega arith,
  felt-none c.nothing-felt.result (length c.args.loads.now) c.clear.new.loads c.clear.ensures,
)

pub meet_pair-entry-requires-clause-pair : goal.meet_pair-entry-requires-clause-pair
meet_pair-entry-requires-clause-pair c =
    all-read (IsPair c.args.shapes.now) c.args.contacts.now.list.pairs c.loop-i.i c.get-pair.result c.requires.ready.pairs.each
    (ap (λ (l : Pairs). slice_get l.pairs c.loop-i.i) (sym c.list.ensures.value) ∙ c.get-pair.ensures)

pub meet_pair-entry-requires-clause-held : goal.meet_pair-entry-requires-clause-held
meet_pair-entry-requires-clause-held c =
    all-read (λ (e : Option Vec3). IsStored e) c.args.contacts.now.entries c.loop-i.i c.held-held.result c.requires.ready.within c.held-held.ensures

pub meet_pair-entry-requires-clause-loads : goal.meet_pair-entry-requires-clause-loads
meet_pair-entry-requires-clause-loads c =
    loads-between c.args.shapes.now c.args.bodies.now c.args.spheres.now.centers (held_by c.args.contacts.now) c.args.contacts.now.list.pairs c.args.from c.loop-i.i c.loop-i.loads c.loop-i.fresh c.requires.ready.pairs
    c.loop-i.invariant.0

pub loop-i-preserved : goal.loop-i-preserved
loop-i-preserved c =
    let lt : c.loop-i.i < length c.args.contacts.now.list.pairs = omega (arith, c.loop-i-test.true, c.requires.there) in
    let room : c.loop-i.i - c.args.from < length c.loop-i.fresh = omega (arith, c.loop-i-test.true, c.requires.fresh, c.loop-i.invariant.1, c.loop-i.invariant.2) in
    elim c.if-is_met.branch [
      | then-is_met w ↦
          let there : slice_get c.args.contacts.now.list.pairs c.loop-i.i ≡ Some w.get-pair.result =
          ap (λ (l : Pairs). slice_get l.pairs c.loop-i.i) (sym w.list.ensures.value) ∙ w.get-pair.ensures in
          let held : held_at (held_by c.args.contacts.now) w.get-pair.result ≡ w.held-held.result =
          entry-here c.args.contacts.now.list.pairs c.args.contacts.now.entries c.loop-i.i w.get-pair.result c.requires.ready.ascends w.list.ensures.as_many lt
          (λ d. get_or_from_slice_get c.args.contacts.now.list.pairs c.loop-i.i w.get-pair.result d there)
          ∙ get_or_from_slice_get c.args.contacts.now.entries c.loop-i.i w.held-held.result None w.held-held.ensures in
          rw (w.loads-is, w.fresh-is, w.felt-is) (
            between-more c.args.shapes.now c.args.bodies.now c.args.spheres.now.centers (held_by c.args.contacts.now) c.args.contacts.now.list.pairs c.args.from c.loop-i.i w.get-pair.result w.held-held.result
                c.loop-i.loads w.meet_pair-entry.new.loads c.loop-i.fresh w.meet_pair-entry.result c.loop-i.invariant.2 there held room w.meet_pair-entry.ensures.loads w.meet_pair-entry.ensures.entry w.meet_pair-entry.ensures.small c.loop-i.invariant.0,
            length-set c.loop-i.fresh (c.loop-i.i - c.args.from) w.meet_pair-entry.result ∙ c.loop-i.invariant.1,
            omega (arith, c.loop-i.invariant.2),
            felt-more c.args.shapes.now c.args.bodies.now c.args.spheres.now.centers w.get-pair.result w.held-held.result c.loop-i.loads w.meet_pair-entry.new.loads w.meet_pair-entry.result c.loop-i.felt w.after-felt.result
                w.meet_pair-entry.ensures.loads w.meet_pair-entry.ensures.entry w.after-felt.ensures c.loop-i.invariant.3,
          )
      | else-is_met w ↦
          let unmet : is_met c.args.marks.now c.loop-i.i ≡ false = sym c.is_met.ensures ∙ w.if-is_met.false in
          rw (w.loads-is, w.fresh-is, w.felt-is) (
            between-unmet c.args.shapes.now c.args.bodies.now c.args.spheres.now.centers (held_by c.args.contacts.now) c.args.contacts.now.list.pairs c.args.marks.now c.args.from c.loop-i.i
                c.loop-i.loads c.loop-i.fresh c.requires.ready.marked unmet c.loop-i.invariant.2 lt room c.loop-i.invariant.0,
            length-set c.loop-i.fresh (c.loop-i.i - c.args.from) None ∙ c.loop-i.invariant.1,
            omega (arith, c.loop-i.invariant.2),
            c.loop-i.invariant.3,
          )
    ]
