use Rattle.std.proofs.Common.{subst}
use Rattle.dem_core.specs.Worlds.{Turning, HasParcel}
use Rattle.dem_core.proofs.TurningFacts.{kept-carries, carries-parcel}
use Rattle.dem_core.proofs.world.World.now.Goals as goal

pub returns-clause-parcel : goal.returns-clause-parcel
returns-clause-parcel c =
    subst (λ (t : Turning). HasParcel t.scene t.world.course t.world.parcel) c.self.view_is
    (carries-parcel c.self.inside.course.scene c.self.inside.course.drift c.self.inside.course.course c.self.inside.parcel.place c.self.inside.parcel.snap c.self.inside.parcel.list (kept-carries c.self.inside.shapes.now c.self.inside.grid.now c.self.inside.course c.self.inside.parcel c.self.invariant))
