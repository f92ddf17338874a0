use Rattle.std.proofs.Common.{refl, ap, ◌∙◌}
use Rattle.dem_model.specs.SceneValue.{SceneValue}
use Rattle.dem_model.specs.Plain.{first_state}
use Rattle.dem_step.proofs.KeptFacts.{first-count}
use Rattle.dem_step.proofs.prepared.Prepared.new.Goals as goal

pub returns : goal.returns
returns c = record {
  places = c.in_ok-new.ensures;
  each = first-count c.args.shapes.now c.in_ok-first_bodies.field-0 (c.in_ok-first_bodies.ensures ∙ ap (λ (s : SceneValue). (first_state s).bodies) c.scene.ensures.value);
  not_ready = refl;
}
