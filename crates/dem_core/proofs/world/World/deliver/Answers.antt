use Rattle.std.proofs.Common.{Ok, arith}
use Rattle.dem_model.specs.declared.state.Turn.TheVariants.{Deliver}
use Rattle.dem_core.specs.Worlds.{world_of}
use Rattle.dem_core.specs.declared.did.Did.TheVariants as did
use Rattle.dem_core.specs.declared.parcel.Place.TheVariants as place
use Rattle.dem_core.proofs.TurningFacts.{going-on, going-turns, kept-carries, taken-room, kept-delivered, kept-refused, deliver-turns, deliver-most}
use Rattle.dem_core.proofs.world.World.deliver.Goals as goal

pub build-requires-clause-sound : goal.build-requires-clause-sound
build-requires-clause-sound g c = (taken-room c.self.inside.shapes.now c.self.inside.grid.now c.self.inside.course c.self.inside.parcel c.self.invariant (going-on _ c.self.inside.course c.self.inside.grid.now.bin c.self.inside.parcel.place c.self.inside.parcel.snap c.self.inside.stopped Deliver c.self.view_is c.requires.may)).1.1.sound

pub invariant_of-self : goal.invariant_of-self
invariant_of-self g c = kept-delivered c.self.inside.shapes.now c.self.inside.grid.now c.self.inside.course c.self.inside.parcel c.in-Ok.list c.self.invariant (going-on _ c.self.inside.course c.self.inside.grid.now.bin c.self.inside.parcel.place c.self.inside.parcel.snap c.self.inside.stopped Deliver c.self.view_is c.requires.may) c.in-Ok.ensures.near

pub invariant_of-self-in-Err : goal.invariant_of-self-in-Err
invariant_of-self-in-Err g c = kept-refused c.self.inside.shapes.now c.self.inside.grid.now c.self.inside.course c.self.inside.parcel c.in-Err.buffer c.self.invariant (going-on _ c.self.inside.course c.self.inside.grid.now.bin c.self.inside.parcel.place c.self.inside.parcel.snap c.self.inside.stopped Deliver c.self.view_is c.requires.may)

pub returns-in-Ok-clause-turned : goal.returns-in-Ok-clause-turned
returns-in-Ok-clause-turned g c =
    going-turns _ c.self.inside.course c.self.inside.grid.now.bin c.self.inside.parcel.place c.self.inside.parcel.snap c.self.inside.stopped Deliver (λ b. world_of c.self.inside.course c.self.inside.grid.now.bin place.Delivered c.self.inside.parcel.snap b) (Ok did.Moved) c.self.view_is c.requires.going
    (deliver-turns c.self.inside.course c.self.inside.grid.now.bin c.self.inside.parcel.place c.self.inside.parcel.snap c.self.inside.parcel.list (going-on _ c.self.inside.course c.self.inside.grid.now.bin c.self.inside.parcel.place c.self.inside.parcel.snap c.self.inside.stopped Deliver c.self.view_is c.requires.may) (kept-carries c.self.inside.shapes.now c.self.inside.grid.now c.self.inside.course c.self.inside.parcel c.self.invariant))

pub returns-in-Ok-clause-counted : goal.returns-in-Ok-clause-counted
returns-in-Ok-clause-counted g c = omega (arith, c.in-Ok.ensures.counted, deliver-most c.self.inside.shapes.now c.self.inside.grid.now c.self.inside.course c.self.inside.parcel c.self.inside.stopped _ c.self.invariant c.self.view_is (going-on _ c.self.inside.course c.self.inside.grid.now.bin c.self.inside.parcel.place c.self.inside.parcel.snap c.self.inside.stopped Deliver c.self.view_is c.requires.may))

pub returns-in-Err-clause-counted : goal.returns-in-Err-clause-counted
returns-in-Err-clause-counted g c = omega (arith, c.in-Err.ensures.counted, deliver-most c.self.inside.shapes.now c.self.inside.grid.now c.self.inside.course c.self.inside.parcel c.self.inside.stopped _ c.self.invariant c.self.view_is (going-on _ c.self.inside.course c.self.inside.grid.now.bin c.self.inside.parcel.place c.self.inside.parcel.snap c.self.inside.stopped Deliver c.self.view_is c.requires.may))
