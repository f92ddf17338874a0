use Rattle.std.proofs.Common.{◌∙◌, ◌≤◌, ◌*◌, ap, subst}
use Rattle.dem_model.specs.Made.{made_clumps, made_templates, state_after}
use Rattle.dem_gen.proofs.MadeFacts.{sound_of}
use Rattle.dem_gen.proofs.scene.made_scene.Goals as goal

pub invariant_of-result : goal.invariant_of-result
invariant_of-result c =
    sound_of c.args.seed (state_after c.args.seed 4) c.edge-edge.result c.args.count c.requires.some c.requires.many c.edge-edge.ensures.few c.edge-edge.ensures.some
    (subst (λ n. n ≤ c.edge-edge.result * c.edge-edge.result * c.edge-edge.result) c.from.ensures c.edge-edge.ensures.fits) _ _ _ _ _ _
    c.in_ok-materials.ensures (c.in_ok-templates.ensures.value ∙ ap made_templates c.seed_from_u64-words.ensures.same) c.in_ok-walls.ensures
    (c.in_ok-clumps.ensures
    ∙ ap (λ w. made_clumps w c.edge-edge.result c.args.count)
    (c.in_ok-templates.ensures.after ∙ ap (λ w. state_after w 4) c.seed_from_u64-words.ensures.same))
    c.new.ensures c.new-2.ensures
