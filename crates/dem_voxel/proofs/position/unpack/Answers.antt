use Rattle.std.proofs.Common.{sym, ap, ◌∙◌}
use Rattle.dem_voxel.specs.Voxel.{packed}
use Rattle.dem_voxel.proofs.VoxelFacts.{packed_unpacked, unpacked_from}
use Rattle.dem_voxel.proofs.position.unpack.Goals as goal

pub returns-clause-value : goal.returns-clause-value
returns-clause-value c =
    sym (unpacked_from c.args.v _ _ _ c.component.ensures.value c.component-2.ensures.value c.component-3.ensures.value
    c.component.ensures.size c.component-2.ensures.size c.component-3.ensures.size)

pub returns-clause-back : goal.returns-clause-back
returns-clause-back c = ap packed (returns-clause-value c) ∙ packed_unpacked c.args.v c.component.ensures.within c.component-2.ensures.within c.component-3.ensures.within
