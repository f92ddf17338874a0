use Rattle.std.proofs.Common.{true, false, Ok, Err, sym, ◌∙◌, subst}
use Rattle.std.specs.Io.KnownBytes.{Appends}
use Rattle.dem_outside.specs.Known.{AppendsPrefix}
use Rattle.dem_model.specs.declared.state.Turn.TheVariants.{Step}
use Rattle.dem_core.specs.Worlds.{parcel_of, world_of}
use Rattle.dem_core.specs.declared.did.Did.TheVariants as did
use Rattle.dem_core.specs.declared.did.WorldStop.TheVariants.{WriteFault}
use Rattle.dem_core.proofs.WorldFacts.{step-may}
use Rattle.dem_core.proofs.TurningFacts.{going-on, going-turns, going-stops, kept-stepped, step-view, step-writes}
use Rattle.dem_core.proofs.world.World.step.Goals as goal

pub step-requires : goal.step-requires
step-requires g c = step-may c.self.inside.course.scene c.self.inside.course.drift (record { course = c.self.inside.course.course; parcel = (parcel_of c.self.inside.parcel.place c.self.inside.parcel.snap) }) (going-on _ c.self.inside.course c.self.inside.grid.now.bin c.self.inside.parcel.place c.self.inside.parcel.snap c.self.inside.stopped Step c.self.view_is c.requires.may)

pub invariant_of-self : goal.invariant_of-self
invariant_of-self g c = kept-stepped c.self.inside.shapes.now c.self.inside.grid.now c.self.inside.course c.step.new.self c.self.inside.parcel c.self.invariant c.in-Ok-Some.ensures.stepped

pub invariant_of-self-in-Ok-None : goal.invariant_of-self-in-Ok-None
invariant_of-self-in-Ok-None g c = kept-stepped c.self.inside.shapes.now c.self.inside.grid.now c.self.inside.course c.step.new.self c.self.inside.parcel c.self.invariant c.in-Ok-None.ensures.stepped

pub invariant_of-self-in-Err : goal.invariant_of-self-in-Err
invariant_of-self-in-Err g c = kept-stepped c.self.inside.shapes.now c.self.inside.grid.now c.self.inside.course c.step.new.self c.self.inside.parcel c.self.invariant c.in-Err.ensures.stepped

pub returns-in-Ok-Some-clause-turned : goal.returns-in-Ok-Some-clause-turned
returns-in-Ok-Some-clause-turned g c =
    going-turns _ c.self.inside.course c.self.inside.grid.now.bin c.self.inside.parcel.place c.self.inside.parcel.snap c.self.inside.stopped Step (λ b. world_of c.step.new.self c.self.inside.grid.now.bin c.self.inside.parcel.place c.self.inside.parcel.snap b) (Ok (did.Closed c.in-Ok-Some.last)) c.self.view_is c.requires.going
    ((going-on _ c.self.inside.course c.self.inside.grid.now.bin c.self.inside.parcel.place c.self.inside.parcel.snap c.self.inside.stopped Step c.self.view_is c.requires.may), step-view c.self.inside.course c.step.new.self c.self.inside.grid.now.bin c.self.inside.parcel.place c.self.inside.parcel.snap false (going-on _ c.self.inside.course c.self.inside.grid.now.bin c.self.inside.parcel.place c.self.inside.parcel.snap c.self.inside.stopped Step c.self.view_is c.requires.may) c.in-Ok-Some.ensures.stepped, sym c.in-Ok-Some.ensures.last ∙ c.in-Ok-Some.field-0-is)

pub returns-in-Ok-Some-clause-written : goal.returns-in-Ok-Some-clause-written
returns-in-Ok-Some-clause-written g c =
    subst (Appends (g.K.Sink.held c.args.out.now) (g.K.Sink.held c.step.new.out)) (step-writes c.self.inside.course c.self.inside.grid.now.bin c.self.inside.parcel.place c.self.inside.parcel.snap c.self.inside.stopped _ c.self.view_is (going-on _ c.self.inside.course c.self.inside.grid.now.bin c.self.inside.parcel.place c.self.inside.parcel.snap c.self.inside.stopped Step c.self.view_is c.requires.may)) c.in-Ok-Some.ensures.written

pub returns-in-Ok-None-clause-turned : goal.returns-in-Ok-None-clause-turned
returns-in-Ok-None-clause-turned g c =
    going-turns _ c.self.inside.course c.self.inside.grid.now.bin c.self.inside.parcel.place c.self.inside.parcel.snap c.self.inside.stopped Step (λ b. world_of c.step.new.self c.self.inside.grid.now.bin c.self.inside.parcel.place c.self.inside.parcel.snap b) (Ok did.Moved) c.self.view_is c.requires.going
    ((going-on _ c.self.inside.course c.self.inside.grid.now.bin c.self.inside.parcel.place c.self.inside.parcel.snap c.self.inside.stopped Step c.self.view_is c.requires.may), step-view c.self.inside.course c.step.new.self c.self.inside.grid.now.bin c.self.inside.parcel.place c.self.inside.parcel.snap false (going-on _ c.self.inside.course c.self.inside.grid.now.bin c.self.inside.parcel.place c.self.inside.parcel.snap c.self.inside.stopped Step c.self.view_is c.requires.may) c.in-Ok-None.ensures.stepped, sym c.in-Ok-None.ensures.last ∙ c.in-Ok-None.field-0-is)

pub returns-in-Ok-None-clause-written : goal.returns-in-Ok-None-clause-written
returns-in-Ok-None-clause-written g c =
    subst (Appends (g.K.Sink.held c.args.out.now) (g.K.Sink.held c.step.new.out)) (step-writes c.self.inside.course c.self.inside.grid.now.bin c.self.inside.parcel.place c.self.inside.parcel.snap c.self.inside.stopped _ c.self.view_is (going-on _ c.self.inside.course c.self.inside.grid.now.bin c.self.inside.parcel.place c.self.inside.parcel.snap c.self.inside.stopped Step c.self.view_is c.requires.may)) c.in-Ok-None.ensures.written

pub returns-in-Err-clause-turned : goal.returns-in-Err-clause-turned
returns-in-Err-clause-turned g c =
    going-stops _ c.self.inside.course c.self.inside.grid.now.bin c.self.inside.parcel.place c.self.inside.parcel.snap c.self.inside.stopped Step (world_of c.step.new.self c.self.inside.grid.now.bin c.self.inside.parcel.place c.self.inside.parcel.snap true) (Err WriteFault) c.self.view_is c.requires.going ((going-on _ c.self.inside.course c.self.inside.grid.now.bin c.self.inside.parcel.place c.self.inside.parcel.snap c.self.inside.stopped Step c.self.view_is c.requires.may), step-view c.self.inside.course c.step.new.self c.self.inside.grid.now.bin c.self.inside.parcel.place c.self.inside.parcel.snap true (going-on _ c.self.inside.course c.self.inside.grid.now.bin c.self.inside.parcel.place c.self.inside.parcel.snap c.self.inside.stopped Step c.self.view_is c.requires.may) c.in-Err.ensures.stepped)

pub returns-in-Err-clause-written : goal.returns-in-Err-clause-written
returns-in-Err-clause-written g c =
    subst (AppendsPrefix (g.K.Sink.held c.args.out.now) (g.K.Sink.held c.step.new.out)) (step-writes c.self.inside.course c.self.inside.grid.now.bin c.self.inside.parcel.place c.self.inside.parcel.snap c.self.inside.stopped _ c.self.view_is (going-on _ c.self.inside.course c.self.inside.grid.now.bin c.self.inside.parcel.place c.self.inside.parcel.snap c.self.inside.stopped Step c.self.view_is c.requires.may)) c.in-Err.ensures.written
