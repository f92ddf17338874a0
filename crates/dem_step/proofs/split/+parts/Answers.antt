use Rattle.std.proofs.Common.{◌≡◌, ◌+◌, ◌-◌, ◌++◌, length, subst, arith, List}
use Rattle.dem_model.specs.declared.state.Pair.{Pair}
use Rattle.dem_step.specs.Contacts.{held_by}
use Rattle.dem_step.specs.Inside.{HaveMet}
use Rattle.dem_step.specs.Split.{pairs_between}
use Rattle.dem_step.proofs.FeltFacts.{felt-both}
use Rattle.dem_step.proofs.SplitFacts.{between-join, length-between, loads-between, HaveMet-join}
use Rattle.dem_step.proofs.split.+parts.Goals as goal

pub meet_part-add_felt-requires-clause-can : goal.meet_part-add_felt-requires-clause-can
meet_part-add_felt-requires-clause-can g t c =
    let first = loads-between c.args.shapes.now c.args.bodies.now c.args.spheres.now.centers (held_by c.args.contacts.now) c.args.contacts.now.list.pairs _ _ _ _ c.requires.ready.pairs c.meet_both.ensures.front in
    let second = loads-between c.args.shapes.now c.args.bodies.now c.args.spheres.now.centers (held_by c.args.contacts.now) c.args.contacts.now.list.pairs _ _ _ _ c.requires.ready.pairs c.meet_both.ensures.back in
    record {
      size = omega (arith, first.count, second.count);
      first = λ k lt. first.each k (omega (arith, lt, first.count));
      second = λ k lt. second.each k (omega (arith, lt, first.count));
    }

pub meet_part-returns-clause-met : goal.meet_part-returns-clause-met
meet_part-returns-clause-met g t c =
    let first = loads-between c.args.shapes.now c.args.bodies.now c.args.spheres.now.centers (held_by c.args.contacts.now) c.args.contacts.now.list.pairs _ _ _ _ c.requires.ready.pairs c.meet_both.ensures.front in
    let count : length (pairs_between c.args.from (c.args.from + c.min-low.result) c.args.contacts.now.list.pairs) ≡ (c.args.from + c.min-low.result) - c.args.from =
    length-between c.args.from (c.args.from + c.min-low.result) c.args.contacts.now.list.pairs (omega arith) (omega (arith, c.requires.order, c.requires.there)) in
    subst (λ (qs : List Pair). HaveMet c.args.shapes.now c.args.bodies.now c.args.spheres.now.centers (held_by c.args.contacts.now) qs c.add_felt.new.loads
    (c.meet_both.new.front ++ c.meet_both.new.back))
    (between-join c.args.from (c.args.from + c.min-low.result) c.args.to c.args.contacts.now.list.pairs (omega arith) (omega (arith, c.requires.order)))
    (HaveMet-join c.args.shapes.now c.args.bodies.now c.args.spheres.now.centers (held_by c.args.contacts.now)
    (pairs_between c.args.from (c.args.from + c.min-low.result) c.args.contacts.now.list.pairs) _ _ _ _ c.meet_both.new.front c.meet_both.new.back
    (omega (arith, count, c.split_at_mut-front.ensures.front_len, c.meet_both.ensures.front_room))
    (omega (arith, first.count, c.add_felt.ensures.added.size))
    (λ k lt. c.add_felt.ensures.added.done k (omega (arith, lt, first.count)) (omega (arith, lt, first.count)))
    c.meet_both.ensures.front c.meet_both.ensures.back)

pub meet_part-returns-clause-felt : goal.meet_part-returns-clause-felt
meet_part-returns-clause-felt g t c =
    felt-both c.meet_both.new.loads c.meet_both.new.own c.add_felt.new.loads c.meet_both.result.0 c.meet_both.result.1 c.both.result c.both.ensures c.meet_both.ensures.front_felt c.meet_both.ensures.back_felt c.add_felt.ensures.added
