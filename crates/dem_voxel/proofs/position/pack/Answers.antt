use Rattle.std.proofs.Common.{sym, ap, ◌∙◌}
use Rattle.dem_num.specs.Vectors.{widened}
use Rattle.dem_model.specs.Position.{voxel_of, voxel_offset_of}
use Rattle.dem_voxel.specs.Voxel.{unpacked}
use Rattle.dem_voxel.proofs.VoxelFacts.{are_in, stays, packed_from, unpacked_packed}
use Rattle.dem_voxel.proofs.position.pack.Goals as goal

pub voxel-requires : goal.voxel-requires
voxel-requires c = let lies = (are_in _ _ _ (widened c.args.p) c.requires).x in rw (stays c.args.p.x lies) lies

pub voxel-requires-2 : goal.voxel-requires-2
voxel-requires-2 c = let lies = (are_in _ _ _ (widened c.args.p) c.requires).y in rw (stays c.args.p.y lies) lies

pub voxel-requires-3 : goal.voxel-requires-3
voxel-requires-3 c = let lies = (are_in _ _ _ (widened c.args.p) c.requires).z in rw (stays c.args.p.z lies) lies

pub offset-requires : goal.offset-requires
offset-requires c = let lies = (are_in _ _ _ (widened c.args.p) c.requires).x in rw (stays c.args.p.x lies) lies

pub offset-requires-2 : goal.offset-requires-2
offset-requires-2 c = let lies = (are_in _ _ _ (widened c.args.p) c.requires).y in rw (stays c.args.p.y lies) lies

pub offset-requires-3 : goal.offset-requires-3
offset-requires-3 c = let lies = (are_in _ _ _ (widened c.args.p) c.requires).z in rw (stays c.args.p.z lies) lies

pub returns-clause-value : goal.returns-clause-value
returns-clause-value c =
    let each = are_in _ _ _ (widened c.args.p) c.requires in
    sym (packed_from (widened c.args.p) _ _ _ _ _ _
    (c.voxel.ensures.value ∙ ap voxel_of (stays _ each.x)) (c.voxel-2.ensures.value ∙ ap voxel_of (stays _ each.y)) (c.voxel-3.ensures.value ∙ ap voxel_of (stays _ each.z))
    (c.offset.ensures ∙ ap voxel_offset_of (stays _ each.x)) (c.offset-2.ensures ∙ ap voxel_offset_of (stays _ each.y)) (c.offset-3.ensures ∙ ap voxel_offset_of (stays _ each.z)))

pub returns-clause-back : goal.returns-clause-back
returns-clause-back c = ap unpacked (returns-clause-value c) ∙ unpacked_packed (widened c.args.p) c.requires
