use Rattle.std.proofs.Common.{map, ap, ◌∙◌}
use Rattle.std.proofs.lemmas.List.{take_all}
use Rattle.dem_model.specs.SceneValue.{SceneValue}
use Rattle.dem_model.specs.Plain.{first_state}
use Rattle.dem_model.specs.declared.state.Clump.{Clump}
use Rattle.dem_step.proofs.StoredFacts.{first_inside}
use Rattle.dem_step.proofs.stored.StoredBodies.new.Goals as goal

pub place-requires : goal.place-requires
place-requires c =
    first_inside c.args.shapes.now _ _ _ c.scene.ensures.sound (c.as_slice-clump-items.ensures ∙ ap (λ (s : SceneValue). s.clumps) (c.behind-shapes.view_is ∙ c.scene.ensures.value)) c.loop-clump-test.true

pub returns : goal.returns
unfolding first_state
returns c =
    c.loop-clump.invariant
    ∙ ap (map (λ (x : Clump). x.body)) (take_all _ _ c.loop-clump-test.false ∙ c.as_slice-clump-items.ensures ∙ ap (λ (s : SceneValue). s.clumps) (c.behind-shapes.view_is ∙ c.scene.ensures.value))
