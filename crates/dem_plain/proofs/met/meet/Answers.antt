use Rattle.std.proofs.Common.{◌≡◌, sym, ap, ◌∙◌, length, arith}
use Rattle.std.specs.Option.{option_map}
use Rattle.std.proofs.lemmas.List.{with_items_is}
use Rattle.dem_model.specs.Step.{held_in}
use Rattle.dem_model.specs.Step.{loads_with}
use Rattle.dem_force.specs.Places.{meeting_with}
use Rattle.dem_plain.proofs.HoldsFacts.{Holds-missed, Holds-more}
use Rattle.dem_plain.proofs.met.meet.Goals as goal

pub returns-in_default : goal.returns-in_default
returns-in_default c =
    Holds-missed c.args.shapes.now c.args.bodies.now c.args.spheres.now.centers c.args.held.now c.args.pair c.args.met.now
    (sym c.is_apart.ensures ∙ c.if-not-is_apart.false)
    (sym c.push_of.ensures.value ∙ ap (option_map (meeting_with c.args.pair)) c.in_default.is)

pub returns : goal.returns
unfolding held_in
returns c =
    let size : length c.add_push.new.loads ≡ c.args.met.now.loads.len = omega (arith, c.add_push.auto.loads, c.as_mut_slice.ensures.len) in
    Holds-more c.args.shapes.now c.args.bodies.now c.args.spheres.now.centers c.args.held.now c.args.pair c.in-Some.push c.args.met.now _
    (sym c.is_apart.ensures ∙ c.if-not-is_apart.false)
    (sym c.push_of.ensures.value ∙ ap (option_map (meeting_with c.args.pair)) c.in-Some.is)
    c.in-Some.ensures.small
    (with_items_is c.args.met.now.loads c.add_push.new.loads size ∙ c.add_push.ensures
    ∙ ap (λ ws. loads_with c.args.shapes.now ws (meeting_with c.args.pair c.in-Some.push)) c.as_mut_slice.ensures.value)
    c.in_ok-push.ensures.ok
