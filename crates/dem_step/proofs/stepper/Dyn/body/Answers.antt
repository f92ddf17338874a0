use Rattle.std.proofs.Common.{◌<◌, length, sym, subst}
use Rattle.std.proofs.lemmas.Option.{get_or_from_slice_get}
use Rattle.dem_model.specs.Centers.{still_body}
use Rattle.dem_model.specs.Sound.{IsBodyOf}
use Rattle.dem_model.specs.Step.{clump_at}
use Rattle.dem_plain.proofs.RunFacts.{body_sound}
use Rattle.dem_step.specs.Stepper.{Stepper}
use Rattle.dem_step.proofs.stepper.Dyn.body.Goals as goal

pub returns-clause-sound : goal.returns-clause-sound
returns-clause-sound c =
    let lt : c.args.clump < length c.self.inside.shapes.now.clumps = subst (λ (r : Stepper). c.args.clump < length r.scene.clumps) (sym c.self.view_is) c.requires in
    subst (λ (r : Stepper). IsBodyOf r.scene (clump_at r.scene c.args.clump) c.get.result) c.self.view_is
    (subst (IsBodyOf c.self.inside.shapes.now (clump_at c.self.inside.shapes.now c.args.clump))
    (get_or_from_slice_get c.self.inside.bodies c.args.clump c.get.result still_body c.get.ensures)
    (body_sound c.self.inside.shapes.now c.self.inside.bodies c.args.clump still_body c.self.invariant.0.sound lt))
