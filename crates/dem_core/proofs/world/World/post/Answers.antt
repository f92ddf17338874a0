use Rattle.std.proofs.Common.{Ok}
use Rattle.dem_model.specs.declared.state.Turn.TheVariants.{Post}
use Rattle.dem_core.specs.Worlds.{world_of}
use Rattle.dem_core.specs.declared.did.Did.TheVariants as did
use Rattle.dem_core.specs.declared.parcel.Place.TheVariants as place
use Rattle.dem_core.proofs.TurningFacts.{going-on, going-turns, kept-posted, post-turns}
use Rattle.dem_core.proofs.world.World.post.Goals as goal

pub invariant_of-self : goal.invariant_of-self
invariant_of-self c =
    kept-posted c.self.inside.shapes.now c.self.inside.grid.now c.self.inside.course c.self.inside.parcel c.post_into.new.snap c.self.invariant c.now-now.ensures.course (going-on _ c.self.inside.course c.self.inside.grid.now.bin c.self.inside.parcel.place c.self.inside.parcel.snap c.self.inside.stopped Post c.self.view_is c.requires.may) c.post_into.ensures.value c.post_into.ensures.of_run

pub returns : goal.returns
returns c =
    going-turns _ c.self.inside.course c.self.inside.grid.now.bin c.self.inside.parcel.place c.self.inside.parcel.snap c.self.inside.stopped Post (λ b. world_of c.self.inside.course c.self.inside.grid.now.bin place.Posted c.post_into.new.snap b) (Ok did.Moved) c.self.view_is c.requires.going
    (post-turns c.self.inside.course c.self.inside.grid.now.bin c.self.inside.parcel.place c.self.inside.parcel.snap c.post_into.new.snap (going-on _ c.self.inside.course c.self.inside.grid.now.bin c.self.inside.parcel.place c.self.inside.parcel.snap c.self.inside.stopped Post c.self.view_is c.requires.may) c.post_into.ensures.value)
