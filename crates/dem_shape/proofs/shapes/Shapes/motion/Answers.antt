use Rattle.std.proofs.Common.{sym, ap, ◌∙◌, subst, IfSome}
use Rattle.dem_model.specs.SceneValue.{SceneValue}
use Rattle.dem_model.specs.Families.{motion_for, motion_of}
use Rattle.dem_model.specs.Sound.{IsMotion}
use Rattle.dem_shape.proofs.FamilyFacts.{motion-sound}
use Rattle.dem_shape.proofs.shapes.Shapes.motion.Goals as goal

pub returns-clause-value : goal.returns-clause-value
unfolding motion_of
returns-clause-value c =
    c.motion_for.ensures
    ∙ ap (λ (s : SceneValue). motion_for s.motions c.family_of.result) (c.scene.view_is ∙ c.scene-scene.ensures.value)
    ∙ ap (motion_for c.args.self.now.motions) c.family_of.ensures.value

pub returns-clause-within : goal.returns-clause-within
returns-clause-within c =
    subst (λ m. IfSome m IsMotion) (sym c.motion_for.ensures) (motion-sound c.scene.inside.motions c.family_of.result c.scene.invariant.motions)
