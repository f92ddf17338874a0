use Rattle.std.proofs.Common.{sym, ap, ◌∙◌}
use Rattle.dem_num.specs.Vectors.{sum_of}
use Rattle.dem_model.specs.SceneValue.{SceneValue}
use Rattle.dem_voxel.specs.Voxel.{unpacked}
use Rattle.dem_step.proofs.StoredFacts.{moved_there}
use Rattle.dem_step.proofs.advancing.moved_with.Goals as goal

pub unwrap-requires : goal.unwrap-requires
unwrap-requires c =
    let same = c.scene.view_is ∙ c.scene-scene.ensures.value in
    moved_there c.args.shapes.now _ _ _ _ _ c.moved.result (ap (λ (s : SceneValue). s.nx) same) (ap (λ (s : SceneValue). s.ny) same) (ap (λ (s : SceneValue). s.nz) same)
    (c.requires.leads ∙ ap (sum_of (unpacked c.args.at)) (sym c.per_step.ensures.value)) c.requires.sound.p c.moved.ensures.value
