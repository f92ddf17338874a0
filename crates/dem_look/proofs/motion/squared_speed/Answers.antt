use Rattle.std.proofs.Common.{◌^◌, sym, ap, ◌∙◌, subst, arith}
use Rattle.dem_num.specs.Vectors.{widened, Within, norm2_of}
use Rattle.dem_num.specs.declared.vector.Wide3.{Wide3}
use Rattle.dem_num.proofs.VectorSizes.{within_wider}
use Rattle.dem_model.specs.declared.state.Body.{Body}
use Rattle.dem_look.proofs.MotionFacts.{body-read, speed-within, speed-size}
use Rattle.dem_look.proofs.motion.squared_speed.Goals as goal

pub norm2-requires : goal.norm2-requires
norm2-requires c =
    subst (λ (v : Wide3). Within v (2 ^ 62)) (sym c.widen.ensures)
    (within_wider (widened c.get.result.now.v) (2 ^ 40) (2 ^ 62) (speed-within c.args.shapes.now c.args.state.now.bodies c.args.clump c.get.result.now c.scene-scene.ensures.sound c.requires.sound c.requires.there c.get.ensures) (omega arith))

pub returns-clause-value : goal.returns-clause-value
returns-clause-value c =
    c.norm2.ensures ∙ ap norm2_of c.widen.ensures ∙ ap (λ (b : Body). norm2_of (widened b.v)) (sym (body-read c.args.state.now.bodies c.args.clump c.get.result.now c.get.ensures))

pub returns-clause-size : goal.returns-clause-size
returns-clause-size c =
    omega (
      arith,
      c.norm2.ensures ∙ ap norm2_of c.widen.ensures,
      speed-size c.args.shapes.now c.args.state.now.bodies c.args.clump c.get.result.now c.scene-scene.ensures.sound c.requires.sound c.requires.there c.get.ensures,
    )
