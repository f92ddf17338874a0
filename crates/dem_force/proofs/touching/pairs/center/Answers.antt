use Rattle.std.proofs.Common.{◌^◌, subst, sym, pos}
use Rattle.dem_num.specs.declared.vector.Vec3.{Vec3}
use Rattle.dem_num.specs.Vectors.{widened, Within}
use Rattle.dem_model.specs.Sound.{EachBetween}
use Rattle.dem_model.specs.declared.limits.TheConstants.{MAX_POINT}
use Rattle.dem_shape.proofs.PoseFacts.{in_box-small}
use Rattle.dem_force.proofs.TouchFacts.{in_box-between}
use Rattle.dem_force.proofs.touching.pairs.center.Goals as goal

pub returns-clause-size : goal.returns-clause-size
returns-clause-size c =
    subst (λ (v : Vec3). Within (widened v) (2 ^ 36)) (sym c.get.ensures) (in_box-small c.args.shapes.now _ c.scene-scene.ensures.sound (c.requires.centers.each c.args.s c.requires.sphere))

pub returns-clause-place : goal.returns-clause-place
returns-clause-place c =
    subst (λ (v : Vec3). EachBetween (pos 0) (pos MAX_POINT) v) (sym c.get.ensures) (in_box-between c.args.shapes.now _ c.scene-scene.ensures.sound (c.requires.centers.each c.args.s c.requires.sphere))
