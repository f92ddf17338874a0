use Rattle.std.proofs.Common.{◌≡◌, ◌≤◌, sym, ap, ◌∙◌, subst, arith}
use Rattle.dem_list.specs.Ascending.{Pairs}
use Rattle.dem_step.specs.Stepper.{Stepper, state_at, IsInUse}
use Rattle.dem_step.proofs.StepFacts.{plain-number}
use Rattle.dem_step.proofs.stepper.Dyn.list_from.Goals as goal

pub returns-then-self-clause-in_use : goal.returns-then-self-clause-in_use
returns-then-self-clause-in_use c =
    let number : (state_at c.self.inside.shapes.now c.self.inside.step).step ≡ c.self.inside.step =
    plain-number c.self.inside.shapes.now c.self.inside.step (state_at c.self.inside.shapes.now c.self.inside.step) c.self.invariant.0.plain in
    let from : c.from.result ≡ c.self.inside.contacts.list.from = c.from.ensures ∙ ap (λ (l : Pairs). l.from) c.list.ensures.value in
    let past : c.self.inside.contacts.list.from ≤ c.self.inside.step = c.self.invariant.0.past c.if-self.true in
    subst (λ (r : Stepper). IsInUse r c.from.result) c.self.view_is (record {
      from_is = sym from;
      near = c.self.invariant.0.near c.if-self.true;
      past = omega (arith, number, from, past);
    })
