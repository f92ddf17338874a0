use Rattle.std.proofs.Common.{List, Option, ap, ◌∙◌}
use Rattle.dem_num.specs.declared.vector.Vec3.{Vec3}
use Rattle.dem_model.specs.Carry.{carried}
use Rattle.dem_list.specs.Ascending.{Pairs}
use Rattle.dem_hist.specs.Carrying.{HeldByPlace}
use Rattle.dem_hist.proofs.CarryFacts.{length-carried, carried-same}
use Rattle.dem_hist.proofs.contacts.Contacts.carry.Goals as goal

pub invariant_of-self-in-Ok : goal.invariant_of-self-in-Ok
invariant_of-self-in-Ok c = rw (c.swap.ensures.x_after, c.replace-in-Ok.ensures.after, c.in-Ok.ensures) (length-carried _ _ _)

pub returns-then-are_same-clause-carried : goal.returns-then-are_same-clause-carried
returns-then-are_same-clause-carried c =
    let same = c.are_same.ensures c.if-are_same.true in
    ap (λ (l : Pairs). let h : HeldByPlace = record { list = l; entries = c.self.inside.entries.items } in h) c.replace.ensures.after
    ∙ ap (λ (es : List (Option Vec3)). let h : HeldByPlace = record { list = c.args.new; entries = es } in h)
    (carried-same c.self.inside.pairs.pairs c.self.inside.entries.items c.args.new.pairs c.len-pairs.ensures.ascending c.self.invariant same)
    ∙ ap (λ (b : HeldByPlace). let h : HeldByPlace = record { list = c.args.new; entries = carried b.list.pairs b.entries c.args.new.pairs } in h) c.self.view_is
