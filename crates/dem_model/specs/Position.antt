-- Positions and the box: what lies inside, and in which voxel.
use Rattle.std.specs.Prelude.{ℕ, ℤ, pos, ◌*◌, ◌/◌, ◌%◌, Bool, not, ◌&&◌, int_lt, unsigned_abs}
use Rattle.dem_num.specs.declared.vector.Wide3.{Wide3}
use Rattle.dem_model.specs.SceneValue.{SceneValue}
use Rattle.dem_model.specs.declared.limits.TheConstants.{VOXEL}

-- whether a component lies in the box, on an axis of n voxels
unfoldable pub in_voxels : ℕ → ℤ → Bool
in_voxels n z = not (int_lt z (pos 0)) && int_lt z (pos (n * VOXEL))

-- whether a place lies in the box
unfoldable pub in_box : SceneValue → Wide3 → Bool
in_box s p = in_voxels s.nx p.x && in_voxels s.ny p.y && in_voxels s.nz p.z

-- the voxel in which a component lies, counted from 0 along its axis; no component of a place in the box is negative
unfoldable pub voxel_of : ℤ → ℕ
voxel_of z = unsigned_abs z / VOXEL

-- how far a component lies past the beginning of its voxel
unfoldable pub voxel_offset_of : ℤ → ℕ
voxel_offset_of z = unsigned_abs z % VOXEL
