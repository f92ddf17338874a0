use Rattle.std.proofs.Common.{sym, ap, ◌∙◌}
use Rattle.std.specs.Prelude.{slice_get}
use Rattle.dem_model.specs.SceneValue.{SceneValue}
use Rattle.dem_force.proofs.TouchFacts.{template_read}
use Rattle.dem_look.proofs.MotionFacts.{mass-read}
use Rattle.dem_look.proofs.motion.mass.Goals as goal

pub returns-clause-value : goal.returns-clause-value
returns-clause-value c =
    let same = c.scene.view_is ∙ c.scene-scene.ensures.value in
    mass-read c.args.shapes.now c.args.clump c.get.result.now c.get-2.result.now
    (ap (λ (s : SceneValue). slice_get s.clumps c.args.clump) (sym same) ∙ c.get.ensures)
    (ap (λ (s : SceneValue). slice_get s.templates c.get.result.now.t) (sym same) ∙ c.get-2.ensures)

pub returns-clause-size : goal.returns-clause-size
returns-clause-size c =
    let same = c.scene.view_is ∙ c.scene-scene.ensures.value in
    (template_read c.args.shapes.now c.get.result.now.t c.get-2.result.now c.scene-scene.ensures.sound
    (ap (λ (s : SceneValue). slice_get s.templates c.get.result.now.t) (sym same) ∙ c.get-2.ensures)).mass.le_high
