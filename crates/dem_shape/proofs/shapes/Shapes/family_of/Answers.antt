use Rattle.std.proofs.Common.{◌≡◌, sym, ap, ◌∙◌, arith, Some}
use Rattle.std.specs.Prelude.{slice_get}
use Rattle.dem_model.specs.SceneValue.{SceneValue}
use Rattle.dem_shape.proofs.FamilyFacts.{family_of-at, family_of-small}
use Rattle.dem_shape.proofs.shapes.Shapes.family_of.Goals as goal

pub returns-clause-value : goal.returns-clause-value
returns-clause-value c =
    let at : slice_get c.args.self.now.clumps c.args.clump ≡ Some c.get.result.now =
    ap (λ (s : SceneValue). slice_get s.clumps c.args.clump) (sym (c.scene.view_is ∙ c.scene-scene.ensures.value)) ∙ c.get.ensures in
    sym (family_of-at c.args.self.now c.args.clump c.get.result.now at)

pub returns-clause-within : goal.returns-clause-within
returns-clause-within c =
    let at : slice_get c.args.self.now.clumps c.args.clump ≡ Some c.get.result.now =
    ap (λ (s : SceneValue). slice_get s.clumps c.args.clump) (sym (c.scene.view_is ∙ c.scene-scene.ensures.value)) ∙ c.get.ensures in
    omega (arith, family_of-at c.args.self.now c.args.clump c.get.result.now at, family_of-small c.args.self.now c.args.clump c.scene-scene.ensures.sound)
