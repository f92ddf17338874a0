use Rattle.std.proofs.Common.{arith}
use Rattle.dem_model.specs.Pairs.{sphere_count}
use Rattle.dem_save.proofs.loading.is_pair.Goals as goal

pub overflow_add-limit : goal.overflow_add-limit
unfolding sphere_count
overflow_add-limit c = omega (arith, c.scene-scene.ensures.sound.sphere_count, c.scene-scene.ensures.sound.wall_count)
