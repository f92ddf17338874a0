use Rattle.std.proofs.Common.{◌<◌, length, sym, ap, ◌∙◌, subst, arith}
use Rattle.dem_num.specs.Vectors.{widened}
use Rattle.dem_model.specs.Centers.{body_at}
use Rattle.dem_voxel.specs.Voxel.{packed}
use Rattle.dem_step.specs.Stepper.{Stepper}
use Rattle.dem_step.proofs.stepper.Dyn.voxel.Goals as goal

pub voxel-requires : goal.voxel-requires
voxel-requires c =
    let lt : c.args.clump < length c.self.inside.shapes.now.clumps = subst (λ (r : Stepper). c.args.clump < length r.scene.clumps) (sym c.self.view_is) c.requires in
    omega (arith, lt, c.self.invariant.0.sound.count)

pub returns : goal.returns
returns c = c.voxel.ensures.value ∙ ap (λ bs. packed (widened (body_at bs c.args.clump).p)) (c.self.invariant.0.bodies_are ∙ ap (λ (r : Stepper). r.state.bodies) c.self.view_is)
