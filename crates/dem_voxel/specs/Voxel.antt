-- A position as the number of its voxel and its offset in it.
use Rattle.std.specs.Prelude.{ℕ, ℤ, pos, ◌+◌, ◌*◌, ◌/◌, ◌%◌, Bool, ◌&&◌, Option, Some, None, if◌then◌else◌}
use Rattle.dem_num.specs.declared.vector.Wide3.{Wide3}
use Rattle.dem_model.specs.Position.{in_voxels, voxel_of, voxel_offset_of}
use Rattle.dem_model.specs.declared.limits.TheConstants.{MAX_VOXELS, VOXEL}
use Rattle.dem_voxel.specs.declared.position.VoxelPos.{VoxelPos}
use Rattle.dem_voxel.specs.declared.position.TheConstants.{ROW, LAYER}

-- the number of a voxel, from its numbers along the axes
unfoldable pub voxel_id : ℕ → ℕ → ℕ → ℕ
voxel_id x y z = x + y * ROW + z * LAYER

-- a place in its stored form
unfoldable pub packed : Wide3 → VoxelPos
packed p = record {
  id = voxel_id (voxel_of p.x) (voxel_of p.y) (voxel_of p.z);
  ox = voxel_offset_of p.x;
  oy = voxel_offset_of p.y;
  oz = voxel_offset_of p.z;
}

-- the component that lies so far past the beginning of a voxel
unfoldable pub component_at : ℕ → ℕ → ℤ
component_at voxel offset = pos (voxel * VOXEL + offset)

-- the place of a stored form
abbrev pub unpacked : VoxelPos → Wide3
unpacked v = record {
  x = component_at (v.id % ROW) v.ox;
  y = component_at (v.id / ROW % ROW) v.oy;
  z = component_at (v.id / LAYER) v.oz;
}

-- whether a place lies in a box of so many voxels on the axes
unfoldable pub in_box_of : ℕ → ℕ → ℕ → Wide3 → Bool
in_box_of nx ny nz p = in_voxels nx p.x && in_voxels ny p.y && in_voxels nz p.z

-- whether a place lies in the largest box: it has a stored form
abbrev pub is_packable : Wide3 → Bool
is_packable p = in_box_of MAX_VOXELS MAX_VOXELS MAX_VOXELS p

-- the stored form of a place in a box of so many voxels on the axes, and none of a place outside
unfoldable pub packed_in : ℕ → ℕ → ℕ → Wide3 → Option VoxelPos
packed_in nx ny nz p = if in_box_of nx ny nz p then Some (packed p) else None
