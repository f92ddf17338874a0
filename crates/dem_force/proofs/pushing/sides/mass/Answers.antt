use Rattle.std.proofs.Common.{sym, ap, ◌∙◌}
use Rattle.std.specs.Prelude.{slice_get}
use Rattle.dem_model.specs.SceneValue.{SceneValue}
use Rattle.dem_force.proofs.TouchFacts.{mass_read, template_read}
use Rattle.dem_force.proofs.pushing.sides.mass.Goals as goal

pub returns-clause-value : goal.returns-clause-value
returns-clause-value c =
    let same = c.scene.view_is ∙ c.scene-scene.ensures.value in
    mass_read c.args.shapes.now c.args.sphere c.clump_of.result c.get-clump.result.now c.get.result.now c.clump_of.ensures.value
    (ap (λ (s : SceneValue). slice_get s.clumps c.clump_of.result) (sym same) ∙ c.get-clump.ensures)
    (ap (λ (s : SceneValue). slice_get s.templates c.get-clump.result.now.t) (sym same) ∙ c.get.ensures)

pub returns-clause-range : goal.returns-clause-range
returns-clause-range c =
    let same = c.scene.view_is ∙ c.scene-scene.ensures.value in
    (template_read c.args.shapes.now c.get-clump.result.now.t c.get.result.now c.scene-scene.ensures.sound
    (ap (λ (s : SceneValue). slice_get s.templates c.get-clump.result.now.t) (sym same) ∙ c.get.ensures)).mass
