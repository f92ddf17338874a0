use Rattle.std.proofs.Common.{◌≡◌, ℕ, ap, sym, ◌∙◌, subst}
use Rattle.std.specs.Prelude.{IfOk, slice_get, Some}
use Rattle.dem_model.specs.SceneValue.{SceneValue}
use Rattle.dem_model.specs.Advance.{advance_of}
use Rattle.dem_model.specs.Families.{motion_for}
use Rattle.dem_model.specs.Sound.{IsBodyOf}
use Rattle.dem_model.specs.Step.{clump_at}
use Rattle.dem_model.specs.declared.law.Load.{Load}
use Rattle.dem_force.proofs.AdvanceFacts.{advanced_by, advance_of-at, motion_of-at, placed-sound}
use Rattle.dem_force.proofs.advancing.clump.advance_by.Goals as goal

pub returns-clause-value : goal.returns-clause-value
returns-clause-value c =
    let load : Load = record { force = c.args.force; torque = c.args.torque } in
    let scene = c.scene-scene.result.now in
    let named : slice_get scene.templates (clump_at scene c.args.clump).t ≡ Some c.template_at.result.now =
    subst (λ (t : ℕ). slice_get scene.templates t ≡ Some c.template_at.result.now) c.template_number-t.ensures.value c.template_at.ensures.value in
    let moved : c.motion-motion.result ≡ motion_for scene.motions (clump_at scene c.args.clump).family =
    c.motion-motion.ensures.value
    ∙ motion_of-at c.args.shapes.now c.args.clump c.requires.clump
    ∙ ap (λ (s : SceneValue). motion_for s.motions (clump_at s c.args.clump).family) (sym c.scene-scene.ensures.value) in
    c.advance_as.ensures.value
    ∙ ap (advanced_by scene c.template_at.result.now c.args.body.now load) moved
    ∙ advance_of-at scene (clump_at scene c.args.clump) c.template_at.result.now c.args.body.now load named
    ∙ ap (λ (s : SceneValue). advance_of s (clump_at s c.args.clump) c.args.body.now load) c.scene-scene.ensures.value

pub returns-clause-sound : goal.returns-clause-sound
returns-clause-sound c =
    let scene = c.scene-scene.result.now in
    let named : slice_get scene.templates (clump_at scene c.args.clump).t ≡ Some c.template_at.result.now =
    subst (λ (t : ℕ). slice_get scene.templates t ≡ Some c.template_at.result.now) c.template_number-t.ensures.value c.template_at.ensures.value in
    subst (λ (s : SceneValue). IfOk c.advance_as.result (IsBodyOf s (clump_at s c.args.clump))) c.scene-scene.ensures.value
    (placed-sound scene (clump_at scene c.args.clump) c.template_at.result.now c.advance_as.result named c.advance_as.ensures.placed)
