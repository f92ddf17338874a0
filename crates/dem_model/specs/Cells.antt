-- Cells of a region: places for one template, in layers along z, that lie in the region and keep a gap.
use Rattle.std.specs.Prelude.{ℕ, pos, ◌+◌, ◌-◌, ◌*◌, ◌/◌, ◌%◌, ◌==◌, max, List, [], ◌∷◌, map, find, unwrap_or, nat_le, unsigned_abs, if◌then◌else◌}
use Rattle.std.specs.List.{flat_map, range_with_len}
use Rattle.dem_num.specs.declared.vector.Vec3.{Vec3}
use Rattle.dem_model.specs.declared.shape.Ball.{Ball}

-- ---- how far a template reaches

-- how far a sphere reaches from its clump's position: the greatest component of its offset in size, plus its radius
unfoldable pub reach_of : Ball → ℕ
reach_of b = max (max (unsigned_abs b.at.x) (unsigned_abs b.at.y)) (unsigned_abs b.at.z) + b.r

-- the extent of a template: the greatest reach of its spheres
unfoldable pub extent_of : List Ball → ℕ
extent_of [] = 0
extent_of (b ∷ bs) = max (reach_of b) (extent_of bs)

-- ---- places on an axis

-- a stretch of an axis, from low to high
pub record Span : Type 0 where
  pub low : ℕ
  pub high : ℕ

-- how many places a stretch has, a pitch apart, for what reaches so far to both sides
unfoldable pub place_count : (extent pitch : ℕ) → Span → ℕ
place_count extent pitch s = if nat_le (s.low + 2 * extent) s.high then (s.high - s.low - 2 * extent) / pitch + 1 else 0

-- where place number i is, counted from 0
unfoldable pub place_at : (extent pitch low i : ℕ) → ℕ
place_at extent pitch low i = low + extent + i * pitch

-- the places of a stretch, in order
unfoldable pub places : (extent pitch : ℕ) → Span → List ℕ
places extent pitch s = map (place_at extent pitch s.low) (range_with_len 0 (place_count extent pitch s))

-- ---- lattices

-- how cells follow each other
pub record Lattice : Type 0 where
  -- how far a template reaches from its cell
  pub extent : ℕ
  -- from cell to cell along x, and along y
  pub pitch : ℕ
  -- how far odd layers are shifted along x, and along y
  pub shift : ℕ
  -- from layer to layer
  pub rise : ℕ

-- from cell to cell: twice the extent, and the gap
unfoldable pub pitch_of : (extent gap : ℕ) → ℕ
pitch_of extent gap = 2 * extent + gap

-- the least rise at which cells of the next layer, shifted by half a pitch along x and y, are a pitch away
unfoldable pub rise_of : (pitch : ℕ) → ℕ
rise_of pitch = let half = pitch / 2 in unwrap_or (find (λ p. nat_le (pitch * pitch - 2 * (half * half)) (p * p)) (range_with_len 0 (pitch + 1))) 0

-- the grid: no layer is shifted, and layers are a pitch apart
unfoldable pub grid : (extent gap : ℕ) → Lattice
grid extent gap = record { extent = extent; pitch = pitch_of extent gap; shift = 0; rise = pitch_of extent gap }

-- staggered layers: odd ones are shifted by half a pitch, rounded down
unfoldable pub staggered : (extent gap : ℕ) → Lattice
staggered extent gap = record { extent = extent; pitch = pitch_of extent gap; shift = pitch_of extent gap / 2; rise = rise_of (pitch_of extent gap) }

-- ---- cells

-- a region: a stretch of each axis
pub record Region : Type 0 where
  pub x : Span
  pub y : Span
  pub z : Span

-- the region between two corners of which no component is negative
abbrev pub region_between : (lo hi : Vec3) → Region
region_between lo hi = record {
  x = record { low = unsigned_abs lo.x; high = unsigned_abs hi.x };
  y = record { low = unsigned_abs lo.y; high = unsigned_abs hi.y };
  z = record { low = unsigned_abs lo.z; high = unsigned_abs hi.z };
}

-- how far layer number k is shifted along x, and along y
unfoldable pub shift_at : Lattice → ℕ → ℕ
shift_at l k = if k % 2 == 0 then 0 else l.shift

-- a stretch whose beginning is shifted as layer number k is
abbrev pub shifted_at : Lattice → ℕ → Span → Span
shifted_at l k s = record { low = s.low + shift_at l k; high = s.high }

-- a cell
abbrev pub cell_at : (x y z : ℕ) → Vec3
cell_at x y z = record { x = pos x; y = pos y; z = pos z }

-- the cells of these places along x and y, at the height z: by place along y, then by place along x
unfoldable pub cells_over : (xs ys : List ℕ) → ℕ → List Vec3
cells_over xs ys z = flat_map (λ y. map (λ x. cell_at x y z) xs) ys

-- the cells of layer number k
unfoldable pub layer_of : Lattice → Region → ℕ → List Vec3
layer_of l region k =
    cells_over (places l.extent l.pitch (shifted_at l k region.x)) (places l.extent l.pitch (shifted_at l k region.y)) (place_at l.extent l.rise region.z.low k)

-- how many layers a region has
unfoldable pub layer_count : Lattice → Region → ℕ
layer_count l region = place_count l.extent l.rise region.z

-- all cells of a region, layer by layer
unfoldable pub cells_of : Lattice → Region → List Vec3
cells_of l region = flat_map (layer_of l region) (range_with_len 0 (layer_count l region))
