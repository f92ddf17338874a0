use Rattle.std.proofs.Common.{map, ap, ◌∙◌}
use Rattle.std.proofs.lemmas.List.{take_all}
use Rattle.dem_model.specs.SceneValue.{SceneValue}
use Rattle.dem_model.specs.Plain.{first_state}
use Rattle.dem_model.specs.declared.state.Clump.{Clump}
use Rattle.dem_shape.proofs.start.first_bodies.Goals as goal

pub returns : goal.returns
unfolding first_state
returns c =
    c.loop-clump.invariant
    ∙ ap (map (λ (x : Clump). x.body)) (take_all _ _ c.loop-clump-test.false ∙ c.as_slice-clump-items.ensures ∙ ap (λ (s : SceneValue). s.clumps) c.scene.view_is)
