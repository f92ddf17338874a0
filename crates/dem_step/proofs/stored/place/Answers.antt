use Rattle.dem_step.proofs.StoredFacts.{packable-inside}
use Rattle.dem_step.proofs.stored.place.Goals as goal

pub pack-requires : goal.pack-requires
pack-requires c = packable-inside _ _ c.scene-scene.ensures.sound c.requires
