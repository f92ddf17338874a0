use Rattle.std.proofs.Common.{true, Ok, Err, subst}
use Rattle.std.specs.Io.KnownBytes.{Appends}
use Rattle.dem_outside.specs.Known.{AppendsPrefix}
use Rattle.dem_model.specs.declared.state.Turn.TheVariants.{Collect}
use Rattle.dem_core.specs.Worlds.{world_of}
use Rattle.dem_core.specs.declared.did.Did.TheVariants as did
use Rattle.dem_core.specs.declared.did.WorldStop.TheVariants.{WriteFault}
use Rattle.dem_core.specs.declared.parcel.Place.TheVariants as place
use Rattle.dem_core.proofs.TurningFacts.{going-on, going-turns, going-stops, collect-asks, collect-turns, collect-stops, collect-notes}
use Rattle.dem_core.proofs.world.World.collect.Goals as goal

pub collect-requires-clause-near : goal.collect-requires-clause-near
collect-requires-clause-near g c = (collect-asks c.self.inside.shapes.now c.self.inside.grid.now c.self.inside.course c.self.inside.parcel c.replace-list.result c.self.invariant c.replace-list.ensures.value (going-on _ c.self.inside.course c.self.inside.grid.now.bin c.self.inside.parcel.place c.self.inside.parcel.snap c.self.inside.stopped Collect c.self.view_is c.requires.may)).0

pub collect-requires-clause-may : goal.collect-requires-clause-may
collect-requires-clause-may g c = (collect-asks c.self.inside.shapes.now c.self.inside.grid.now c.self.inside.course c.self.inside.parcel c.replace-list.result c.self.invariant c.replace-list.ensures.value (going-on _ c.self.inside.course c.self.inside.grid.now.bin c.self.inside.parcel.place c.self.inside.parcel.snap c.self.inside.stopped Collect c.self.view_is c.requires.may)).1

pub returns-in-Ok-clause-turned : goal.returns-in-Ok-clause-turned
returns-in-Ok-clause-turned g c =
    going-turns _ c.self.inside.course c.self.inside.grid.now.bin c.self.inside.parcel.place c.self.inside.parcel.snap c.self.inside.stopped Collect (λ b. world_of c.collect.new.self c.self.inside.grid.now.bin place.Home c.self.inside.parcel.snap b) (Ok did.Moved) c.self.view_is c.requires.going
    (collect-turns c.self.inside.shapes.now c.self.inside.grid.now c.self.inside.course c.collect.new.self c.self.inside.grid.now.bin c.self.inside.parcel c.replace-list.result c.self.invariant c.replace-list.ensures.value (going-on _ c.self.inside.course c.self.inside.grid.now.bin c.self.inside.parcel.place c.self.inside.parcel.snap c.self.inside.stopped Collect c.self.view_is c.requires.may) c.in-Ok.ensures.0)

pub returns-in-Ok-clause-noted : goal.returns-in-Ok-clause-noted
returns-in-Ok-clause-noted g c =
    subst (Appends (g.N.Sink.held c.args.note.now) (g.N.Sink.held c.collect.new.note)) (collect-notes c.self.inside.shapes.now c.self.inside.grid.now c.self.inside.course c.self.inside.grid.now.bin c.self.inside.parcel c.replace-list.result c.self.inside.stopped _ c.self.invariant c.replace-list.ensures.value c.self.view_is (going-on _ c.self.inside.course c.self.inside.grid.now.bin c.self.inside.parcel.place c.self.inside.parcel.snap c.self.inside.stopped Collect c.self.view_is c.requires.may)) c.in-Ok.ensures.1

pub returns-in-Err-default-WriteFault-clause-turned : goal.returns-in-Err-default-WriteFault-clause-turned
returns-in-Err-default-WriteFault-clause-turned g c =
    going-stops _ c.self.inside.course c.self.inside.grid.now.bin c.self.inside.parcel.place c.self.inside.parcel.snap c.self.inside.stopped Collect (world_of c.collect.new.self c.self.inside.grid.now.bin place.Home c.self.inside.parcel.snap true) (Err WriteFault) c.self.view_is c.requires.going
    (collect-stops c.self.inside.shapes.now c.self.inside.grid.now c.self.inside.course c.collect.new.self c.self.inside.grid.now.bin c.self.inside.parcel c.replace-list.result c.self.invariant c.replace-list.ensures.value (going-on _ c.self.inside.course c.self.inside.grid.now.bin c.self.inside.parcel.place c.self.inside.parcel.snap c.self.inside.stopped Collect c.self.view_is c.requires.may) (rw c.in-Err-default-WriteFault.field-0-1-is at c.in-Err-default-WriteFault.ensures).0)

pub returns-in-Err-default-WriteFault-clause-noted : goal.returns-in-Err-default-WriteFault-clause-noted
returns-in-Err-default-WriteFault-clause-noted g c =
    subst (AppendsPrefix (g.N.Sink.held c.args.note.now) (g.N.Sink.held c.collect.new.note)) (collect-notes c.self.inside.shapes.now c.self.inside.grid.now c.self.inside.course c.self.inside.grid.now.bin c.self.inside.parcel c.replace-list.result c.self.inside.stopped _ c.self.invariant c.replace-list.ensures.value c.self.view_is (going-on _ c.self.inside.course c.self.inside.grid.now.bin c.self.inside.parcel.place c.self.inside.parcel.snap c.self.inside.stopped Collect c.self.view_is c.requires.may)) (rw c.in-Err-default-WriteFault.field-0-1-is at c.in-Err-default-WriteFault.ensures).1
