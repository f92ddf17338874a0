use Rattle.std.proofs.Common.{◌≡◌, ◌<◌, ◌≤◌, length, sym, refl, ap, ◌∙◌, subst, arith, None}
use Rattle.std.specs.Prelude.{slice_get}
use Rattle.std.proofs.lemmas.Option.{get_or_from_slice_get}
use Rattle.dem_model.specs.Centers.{centers_of}
use Rattle.dem_model.specs.Motion.{IsPair}
use Rattle.dem_model.specs.Near.{near}
use Rattle.dem_model.specs.Step.{held_at}
use Rattle.dem_force.specs.Stored.{IsStored}
use Rattle.dem_list.specs.Ascending.{IsAscending, Pairs}
use Rattle.dem_hist.proofs.CarryFacts.{entry-here}
use Rattle.dem_step.specs.Contacts.{held_by}
use Rattle.dem_step.specs.Stepper.{state_at}
use Rattle.dem_step.proofs.RoomFacts.{all-read, length-set, take-whole}
use Rattle.dem_step.proofs.AheadFacts.{IsHandedOn, AreTwo, found-within, handed-none, handed-more, handed-loads, handed-all}
use Rattle.dem_step.proofs.ahead.meet_next.Goals as goal

pub loop-i-init : goal.loop-i-init
loop-i-init c = (handed-none _ _ _ _ _ _ _ _ _ c.requires.may.met, refl)

pub entry_of-requires-clause-place : goal.entry_of-requires-clause-place
entry_of-requires-clause-place c = found-within c.args.old.now.pairs c.args.before.now c.get-pair.result c.place_from-place.result c.requires.may.room c.place_from-place.ensures

pub entry_of-requires-clause-pair : goal.entry_of-requires-clause-pair
entry_of-requires-clause-pair c =
    all-read (IsPair c.args.shapes.now) c.args.contacts.now.list.pairs c.loop-i.i c.get-pair.result c.requires.pairs.each
    (ap (λ (l : Pairs). slice_get l.pairs c.loop-i.i) (sym c.list-in-loop-i.ensures.value) ∙ c.get-pair.ensures)

pub entry_of-requires-clause-held : goal.entry_of-requires-clause-held
entry_of-requires-clause-held c = all-read (λ e. IsStored e) c.args.contacts.now.entries c.loop-i.i c.held.result c.requires.within c.held.ensures

pub entry_of-requires-clause-loads : goal.entry_of-requires-clause-loads
entry_of-requires-clause-loads c =
    handed-loads c.args.shapes.now c.args.drift _ _ c.args.bodies.now c.args.spheres.now.centers (held_by c.args.contacts.now) c.args.old.now.pairs c.args.contacts.now.list.pairs c.loop-i.i c.loop-i.loads c.loop-i.fresh
    c.scene-scene.ensures.sound c.requires.may.was.pairs c.requires.may.is.pairs c.loop-i.invariant.0

pub loop-i-preserved : goal.loop-i-preserved
loop-i-preserved c =
    let lt : c.loop-i.i < length c.args.contacts.now.list.pairs = omega (arith, c.loop-i-test.true, c.len-i-end.ensures.value, ap (λ (l : Pairs). length l.pairs) c.list.ensures.value) in
    let room : c.loop-i.i < length c.loop-i.fresh = omega (arith, lt, c.requires.fresh, c.loop-i.invariant.1) in
    let ascends : IsAscending c.args.contacts.now.list.pairs = subst (λ (l : Pairs). IsAscending l.pairs) c.list.ensures.value c.len-i-end.ensures.ascending in
    let there = ap (λ (l : Pairs). slice_get l.pairs c.loop-i.i) (sym c.list-in-loop-i.ensures.value) ∙ c.get-pair.ensures in
    let held : held_at (held_by c.args.contacts.now) c.get-pair.result ≡ c.held.result =
    entry-here c.args.contacts.now.list.pairs c.args.contacts.now.entries c.loop-i.i c.get-pair.result ascends c.list.ensures.as_many lt
    (λ d. get_or_from_slice_get c.args.contacts.now.list.pairs c.loop-i.i c.get-pair.result d there)
    ∙ get_or_from_slice_get c.args.contacts.now.entries c.loop-i.i c.held.result None c.held.ensures in
    let two : AreTwo c.args.shapes.now c.args.drift (centers_of c.args.shapes.now (state_at c.args.shapes.now c.args.old.now.from).bodies) (centers_of c.args.shapes.now (state_at c.args.shapes.now c.args.contacts.now.list.from).bodies)
    c.args.bodies.now c.args.spheres.now.centers (held_by c.args.contacts.now) c.args.old.now.pairs c.args.contacts.now.list.pairs c.args.loads.now c.args.before.now =
    record { was = c.requires.may.was.pairs; is = c.requires.may.is.pairs; ascends = c.len-pairs.ensures.ascending; room = c.requires.may.room; met = c.requires.may.met } in (
      handed-more c.args.shapes.now c.args.drift _ _ c.args.bodies.now c.args.spheres.now.centers (held_by c.args.contacts.now) c.args.old.now.pairs c.args.contacts.now.list.pairs c.args.loads.now c.args.before.now
          c.loop-i.i c.get-pair.result c.held.result c.place_from-place.result c.loop-i.loads c.entry_of.new.loads c.loop-i.fresh c.entry_of.result
          two there held room c.place_from-place.ensures c.entry_of.ensures.loads c.entry_of.ensures.entry c.entry_of.ensures.small c.loop-i.invariant.0,
      length-set c.loop-i.fresh c.loop-i.i c.entry_of.result ∙ c.loop-i.invariant.1,
    )

pub returns-clause-met : goal.returns-clause-met
returns-clause-met c =
    let past : length c.args.contacts.now.list.pairs ≤ c.loop-i.i = omega (arith, c.loop-i-test.false, c.len-i-end.ensures.value, ap (λ (l : Pairs). length l.pairs) c.list.ensures.value) in
    handed-all c.args.shapes.now c.args.drift _ _ c.args.bodies.now c.args.spheres.now.centers (held_by c.args.contacts.now) c.args.old.now.pairs c.args.contacts.now.list.pairs c.loop-i.loads c.loop-i.fresh
    c.requires.may.was.pairs c.requires.may.is.pairs c.requires.may.covers
    (subst (λ ps. IsHandedOn c.args.shapes.now c.args.bodies.now c.args.spheres.now.centers (held_by c.args.contacts.now) c.args.old.now.pairs
    (near c.args.shapes.now c.args.drift (centers_of c.args.shapes.now (state_at c.args.shapes.now c.args.old.now.from).bodies)) ps c.loop-i.loads c.loop-i.fresh) (take-whole c.args.contacts.now.list.pairs c.loop-i.i past) c.loop-i.invariant.0)
