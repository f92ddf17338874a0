use Rattle.std.proofs.Common.{Ok}
use Rattle.dem_model.specs.declared.state.Turn.TheVariants.{Take}
use Rattle.dem_core.specs.Worlds.{world_of}
use Rattle.dem_core.specs.declared.did.Did.TheVariants as did
use Rattle.dem_core.specs.declared.parcel.Place.TheVariants as place
use Rattle.dem_core.proofs.TurningFacts.{going-on, going-turns, kept-carries, kept-taken, take-turns}
use Rattle.dem_core.proofs.world.World.take.Goals as goal

pub invariant_of-self : goal.invariant_of-self
invariant_of-self c = kept-taken c.self.inside.shapes.now c.self.inside.grid.now c.self.inside.course c.self.inside.parcel c.self.invariant (going-on _ c.self.inside.course c.self.inside.grid.now.bin c.self.inside.parcel.place c.self.inside.parcel.snap c.self.inside.stopped Take c.self.view_is c.requires.may)

pub returns : goal.returns
returns c =
    going-turns _ c.self.inside.course c.self.inside.grid.now.bin c.self.inside.parcel.place c.self.inside.parcel.snap c.self.inside.stopped Take (λ b. world_of c.self.inside.course c.self.inside.grid.now.bin place.Taken c.self.inside.parcel.snap b) (Ok did.Moved) c.self.view_is c.requires.going
    (take-turns c.self.inside.course c.self.inside.grid.now.bin c.self.inside.parcel.place c.self.inside.parcel.snap c.self.inside.parcel.list (going-on _ c.self.inside.course c.self.inside.grid.now.bin c.self.inside.parcel.place c.self.inside.parcel.snap c.self.inside.stopped Take c.self.view_is c.requires.may) (kept-carries c.self.inside.shapes.now c.self.inside.grid.now c.self.inside.course c.self.inside.parcel c.self.invariant))
