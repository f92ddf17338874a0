use Rattle.std.proofs.Common.{ap, ◌∙◌}
use Rattle.dem_model.specs.World.{first_course}
use Rattle.dem_core.specs.declared.parcel.Parcel.{Parcel as Room}
use Rattle.dem_core.proofs.TurningFacts.{new-view}
use Rattle.dem_core.proofs.world.World.new.Goals as goal

pub returns-in-Ok : goal.returns-in-Ok
returns-in-Ok g c =
    (new-view c.args.shapes.now c.args.grid.now c.in-Ok.course c.in_ok-parcel.parcel (c.in-Ok.ensures.0 ∙ ap (λ d. record { scene = c.args.shapes.now; drift = d; course = first_course c.args.shapes.now }) c.drift.ensures) (ap (λ (r : Room). r.place) c.in_ok-parcel.ensures), c.in-Ok.ensures.1, c.in-Ok.ensures.2)
