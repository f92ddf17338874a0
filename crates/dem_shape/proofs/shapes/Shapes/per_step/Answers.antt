use Rattle.std.proofs.Common.{◌^◌, ◌≤◌, length, sym, ap, subst}
use Rattle.dem_model.specs.Motion.{per_step_of}
use Rattle.dem_model.specs.Pairs.{sphere_at}
use Rattle.dem_shape.specs.declared.entry.Entry.{Entry}
use Rattle.dem_shape.proofs.StepFacts.{per_step-small}
use Rattle.dem_shape.proofs.shapes.Shapes.per_step.Goals as goal

pub returns-clause-size : goal.returns-clause-size
returns-clause-size c =
    let small : per_step_of c.args.self.now (sphere_at c.args.self.now c.args.s).ball ≤ 2 ^ 27 =
    per_step-small c.args.self.now (sphere_at c.args.self.now c.args.s).ball (length c.args.self.now.materials) c.scene-scene.ensures.sound c.entry.ensures.sound.ball in
    subst (λ n. n ≤ 2 ^ 27) (sym (ap (λ (e : Entry). e.per_step) c.entry.ensures.value)) small
