use Rattle.std.proofs.Common.{refl}
use Rattle.std.proofs.lemmas.Result.{IfOk-weaker}
use Rattle.serde_json.specs.View.{view}
use Rattle.dem_model.specs.ReadingScene.{scene_from}
use Rattle.dem_scene.proofs.ReplaceFacts.{answer}
use Rattle.dem_scene.proofs.stand.with_clumps.Goals as goal

pub returns-in-Ok-clause-text : goal.returns-in-Ok-clause-text
returns-in-Ok-clause-text c =
    IfOk-weaker c.text_with_clumps.result _ _ (λ text h. (answer c.args.bytes.now c.args.stands.now (view c.in-Ok.value) text (scene_from c.args.bytes.now) refl c.requires.read c.requires.stands c.in-Ok.ensures.ok h).compact) c.text_with_clumps.ensures

pub returns-in-Ok-clause-scene : goal.returns-in-Ok-clause-scene
returns-in-Ok-clause-scene c =
    IfOk-weaker c.text_with_clumps.result _ _ (λ text h. (answer c.args.bytes.now c.args.stands.now (view c.in-Ok.value) text (scene_from c.args.bytes.now) refl c.requires.read c.requires.stands c.in-Ok.ensures.ok h).scene) c.text_with_clumps.ensures

pub returns-in-Ok-clause-short : goal.returns-in-Ok-clause-short
returns-in-Ok-clause-short c =
    IfOk-weaker c.text_with_clumps.result _ _ (λ text h. (answer c.args.bytes.now c.args.stands.now (view c.in-Ok.value) text (scene_from c.args.bytes.now) refl c.requires.read c.requires.stands c.in-Ok.ensures.ok h).short) c.text_with_clumps.ensures
