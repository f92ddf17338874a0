use Rattle.std.proofs.Common.{length, ap, ◌∙◌, subst, arith, List}
use Rattle.dem_model.specs.declared.state.Pair.{Pair}
use Rattle.dem_list.specs.Ascending.{IsAscending, Pairs}
use Rattle.dem_step.specs.Contacts.{held_by}
use Rattle.dem_step.specs.Inside.{HaveMet}
use Rattle.dem_step.proofs.SplitFacts.{between-whole}
use Rattle.dem_step.proofs.split.meet_split.Goals as goal

pub meet_part-felt-requires-clause-ready : goal.meet_part-felt-requires-clause-ready
meet_part-felt-requires-clause-ready g c κs within = record {
  centers = c.requires.centers;
  sides = c.requires.sides;
  pairs = c.requires.pairs;
  ascends = subst (λ (l : Pairs). IsAscending l.pairs) c.list.ensures.value c.len-pairs.ensures.ascending;
  within = c.requires.within;
  room = c.requires.marks;
  marked = c.requires.marked;
}

pub meet_part-felt-requires-clause-there : goal.meet_part-felt-requires-clause-there
meet_part-felt-requires-clause-there g c κs within = omega (arith, c.len-pairs.ensures.value, ap (λ (l : Pairs). length l.pairs) c.list.ensures.value)

pub meet_part-felt-requires-clause-fresh : goal.meet_part-felt-requires-clause-fresh
meet_part-felt-requires-clause-fresh g c κs within = omega (arith, c.requires.fresh, c.len-pairs.ensures.value, ap (λ (l : Pairs). length l.pairs) c.list.ensures.value)

pub returns-clause-met : goal.returns-clause-met
returns-clause-met g c =
    subst (λ (ps : List Pair). HaveMet c.args.shapes.now c.args.bodies.now c.args.spheres.now.centers (held_by c.args.contacts.now) ps c.meet_part-felt.new.loads c.meet_part-felt.new.fresh)
    (between-whole c.len-pairs.result c.args.contacts.now.list.pairs (c.len-pairs.ensures.value ∙ ap (λ (l : Pairs). length l.pairs) c.list.ensures.value))
    c.meet_part-felt.ensures.met
