use Rattle.std.proofs.Common.{sym, ◌∙◌}
use Rattle.dem_num.specs.Vectors.{widened}
use Rattle.dem_voxel.proofs.VoxelFacts.{is_packable_in}
use Rattle.dem_voxel.proofs.moving.moved.Goals as goal

pub pack-requires : goal.pack-requires
pack-requires c = is_packable_in c.args.nx c.args.ny c.args.nz (widened c.add3_short-p.result) c.requires.nx.le_high c.requires.ny.le_high c.requires.nz.le_high (sym c.is_in_box.ensures ∙ c.if-is_in_box.true)
