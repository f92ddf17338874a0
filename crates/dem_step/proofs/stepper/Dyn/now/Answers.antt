use Rattle.std.proofs.Common.{◌≡◌, sym, ap, ◌∙◌, subst, Some}
use Rattle.dem_model.specs.Plain.{plain_at}
use Rattle.dem_step.specs.Stepper.{Stepper, state_at}
use Rattle.dem_step.proofs.StepFacts.{plain-number}
use Rattle.dem_step.proofs.stepper.Dyn.now.Goals as goal

pub returns-clause-value : goal.returns-clause-value
returns-clause-value c =
    sym (plain-number c.self.inside.shapes.now c.self.inside.step (state_at c.self.inside.shapes.now c.self.inside.step) c.self.invariant.0.plain)
    ∙ ap (λ (r : Stepper). r.state.step) c.self.view_is

pub returns-clause-plain : goal.returns-clause-plain
returns-clause-plain c =
    let number = plain-number c.self.inside.shapes.now c.self.inside.step (state_at c.self.inside.shapes.now c.self.inside.step) c.self.invariant.0.plain in
    subst (λ (r : Stepper). plain_at r.scene r.state.step ≡ Some r.state) c.self.view_is
    (ap (plain_at c.self.inside.shapes.now) number ∙ c.self.invariant.0.plain)
