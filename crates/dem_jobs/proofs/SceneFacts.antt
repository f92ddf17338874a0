-- The scene that a source has, from what was read of it.
use Rattle.std.proofs.Common.{◌≡◌, ℕ, ◌≤◌, List, length, Ok, Err, ◌∙◌}
use Rattle.std.specs.Io.KnownBytes.{Consumes, IsAtEnd}
use Rattle.dem_outside.specs.Change.{Change, IsCalm}
use Rattle.dem_model.specs.SceneValue.{SceneValue}
use Rattle.dem_model.specs.ReadingScene.{scene_from}
use Rattle.dem_model.specs.declared.fault.SceneFault.{SceneFault}
use Rattle.dem_model.specs.declared.fault.SceneFault.TheVariants as scenes
use Rattle.dem_model.specs.declared.limits.TheConstants.{MAX_TEXT}
use Rattle.dem_scene.specs.Gives.{Fails}
use Rattle.dem_jobs.specs.Parts.{scene_stop, ReadsScene}
use Rattle.dem_jobs.proofs.LeftFacts.{ForTold-weaker, same-scene, scene-ends}

module _ (source : Change) (read : List ℕ) (all : Consumes source.before.bytes source.after.bytes read) (ends : length read ≤ MAX_TEXT → IsAtEnd source.after.bytes) (calm : IsCalm source) where
  -- a scene was read
  pub scene-read : (s : SceneValue) → scene_from read ≡ Ok s → ReadsScene source (Ok s)
  scene-read s is = (
    ForTold-weaker source.before.bytes (λ bytes. scene_from bytes ≡ scene_from read) (λ bytes. scene_from bytes ≡ Ok s) (λ bytes same. same ∙ is)
        (same-scene source.before.bytes source.after.bytes read all ends),
    scene-ends source.after.bytes read s ends is,
    calm,
  )

  -- a text was read that is no scene, or there was no memory for it
  pub scene-refused : (fault : SceneFault) → Fails fault (scene_from read) → ReadsScene source (Err (scene_stop fault))
  scene-refused scenes.OutOfMemory fails = calm
  scene-refused fault fails = (
    ForTold-weaker source.before.bytes (λ bytes. scene_from bytes ≡ scene_from read) (λ bytes. scene_from bytes ≡ Err fault) (λ bytes same. same ∙ fails)
        (same-scene source.before.bytes source.after.bytes read all ends),
    calm,
  )
