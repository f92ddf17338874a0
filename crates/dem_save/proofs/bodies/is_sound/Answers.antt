use Rattle.std.proofs.Common.{◌∙◌, arith}
use Rattle.dem_save.proofs.CheckFacts.{body-checked}
use Rattle.dem_save.proofs.bodies.is_sound.Goals as goal

pub returns : goal.returns
returns c =
    c.is_body.ensures
    ∙ body-checked c.args.shapes.now c.scene-scene.result.now c.args.bodies.now c.args.clump c.template.result _ c.balls-balls.result.now
    c.scene-scene.ensures.value c.template.ensures.value c.balls-balls.ensures.value (omega (arith, c.requires.count, c.requires.there))
