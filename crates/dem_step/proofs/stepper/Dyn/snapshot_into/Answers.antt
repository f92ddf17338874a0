use Rattle.std.proofs.Common.{subst, ◌≡◌, ℕ, List, length, sym, ap, ap₂, ◌∙◌, refl, arith}
use Rattle.dem_model.specs.declared.state.Body.{Body}
use Rattle.dem_shape.specs.declared.snapshot.Snapshot.{Snapshot}
use Rattle.dem_step.specs.Stepper.{Stepper, state_at, IsSnapshotOfRun}
use Rattle.dem_step.proofs.StepFacts.{plain-number}
use Rattle.dem_step.proofs.KeptFacts.{snapshot-of-run}
use Rattle.dem_step.proofs.stepper.Dyn.snapshot_into.Goals as goal

pub unpack_into-requires : goal.unpack_into-requires
unpack_into-requires c =
    let clumps : length c.self.inside.shapes.now.clumps ≡ length c.args.self.now.scene.clumps = ap (λ (r : Stepper). length r.scene.clumps) c.self.view_is in
    omega (arith, c.self.invariant.0.sound.count, c.requires)

pub returns-clause-value : goal.returns-clause-value
returns-clause-value c =
    let snap : ℕ → List Body → Snapshot = λ step bodies. record { step = step; bodies = bodies } in
    let step : c.self.inside.step ≡ c.args.self.now.state.step =
    sym (plain-number c.self.inside.shapes.now c.self.inside.step (state_at c.self.inside.shapes.now c.self.inside.step) c.self.invariant.0.plain)
    ∙ ap (λ (r : Stepper). r.state.step) c.self.view_is in
    ap₂ snap step (c.unpack_into.ensures ∙ c.self.invariant.0.bodies_are ∙ ap (λ (r : Stepper). r.state.bodies) c.self.view_is)

pub returns-clause-of_run : goal.returns-clause-of_run
returns-clause-of_run c =
    subst (λ (r : Stepper). IsSnapshotOfRun r.scene (record { step = c.self.inside.step; bodies = c.unpack_into.new.bodies })) c.self.view_is
    (snapshot-of-run c.self.inside.shapes.now c.self.inside.step c.self.inside.bodies _ refl c.unpack_into.ensures c.self.invariant.0.plain c.self.invariant.0.bodies_are c.self.invariant.0.sound)
