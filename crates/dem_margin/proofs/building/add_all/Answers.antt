use Rattle.std.proofs.Common.{sym, subst, ap, ◌∙◌}
use Rattle.dem_model.specs.Centers.{centers_of}
use Rattle.dem_model.specs.Motion.{AreInside}
use Rattle.dem_model.proofs.SoundFacts.{centers_of-inside}
use Rattle.dem_margin.proofs.building.add_all.Goals as goal

pub add_rows-requires-clause-centers : goal.add_rows-requires-clause-centers
add_rows-requires-clause-centers c =
    subst (AreInside c.args.shapes.now) (sym (c.fill.ensures ∙ ap (centers_of c.args.shapes.now) c.as_slice.ensures))
    (centers_of-inside c.args.shapes.now c.args.snap.now.bodies c.scene-scene.ensures.sound c.requires.sound)
