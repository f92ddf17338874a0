use Rattle.std.proofs.Common.{sym, subst, ap, ◌∙◌}
use Rattle.dem_model.specs.Centers.{centers_of}
use Rattle.dem_model.specs.Motion.{AreInside}
use Rattle.dem_model.proofs.SoundFacts.{centers_of-inside}
use Rattle.dem_jobs.proofs.SummaryFacts.{near-are, near-count}
use Rattle.dem_jobs.proofs.summary.count_touching.Goals as goal

pub count_in-requires-clause-pairs : goal.count_in-requires-clause-pairs
count_in-requires-clause-pairs g c =
    near-are c.args.shapes.now c.args.grid.now.drift c.args.snap.now c.in-Ok.list c.scene-scene.ensures.sound c.in-Ok.ensures.near

pub count_in-requires-clause-centers : goal.count_in-requires-clause-centers
count_in-requires-clause-centers g c =
    subst (AreInside c.args.shapes.now) (sym (c.fill.ensures ∙ ap (centers_of c.args.shapes.now) c.as_slice.ensures))
    (centers_of-inside c.args.shapes.now c.args.snap.now.bodies c.scene-scene.ensures.sound c.requires.sound)

pub returns-in-Ok : goal.returns-in-Ok
returns-in-Ok g c =
    c.count_in.ensures
    ∙ near-count c.args.shapes.now c.args.grid.now.drift c.args.snap.now c.in-Ok.list c.fill.new.self c.scene-scene.ensures.sound c.in-Ok.ensures.near
    (c.fill.ensures ∙ ap (centers_of c.args.shapes.now) c.as_slice.ensures)
