use Rattle.std.proofs.Common.{refl}
use Rattle.dem_model.specs.Position.{in_voxels}
use Rattle.dem_voxel.specs.Voxel.{in_box_of}
use Rattle.dem_values.proofs.voxels.packs_a_corner.Goals as goal

pub pack-requires : goal.pack-requires
unfolding in_box_of in_voxels
pack-requires g c = refl
