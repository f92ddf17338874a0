use Rattle.dem_plain.proofs.RunFacts.{begins_sound, begins_plain, begins_stored, begins_run}
use Rattle.dem_plain.proofs.plain_run.PlainRun.new.Goals as goal

pub at-requires-clause-sound : goal.at-requires-clause-sound
at-requires-clause-sound c =
    begins_sound c.args.scene.now c.in_ok-shapes.shapes c.in_ok-first_bodies.field-0
    c.in_ok-shapes.ensures c.scene-scene.ensures.sound c.in_ok-first_bodies.ensures

pub at-requires-clause-stored : goal.at-requires-clause-stored
at-requires-clause-stored c = begins_stored c.new-2.result c.new-2.ensures

pub at-requires-clause-plain : goal.at-requires-clause-plain
at-requires-clause-plain c =
    λ e. begins_plain c.args.scene.now c.in_ok-shapes.shapes c.in_ok-first_bodies.field-0 c.new-2.result c.in_ok-shapes.ensures c.in_ok-first_bodies.ensures c.new-2.ensures

pub returns : goal.returns
returns c = begins_run c.args.scene.now c.in_ok-shapes.shapes c.in_ok-first_bodies.field-0 c.new-2.result c.at.result c.in_ok-shapes.ensures c.in_ok-first_bodies.ensures c.new-2.ensures c.at.ensures
