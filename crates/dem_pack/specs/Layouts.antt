-- A layout: the lattice and the region that cells are counted and found by.
use Rattle.std.specs.Prelude.{◌≤◌, ◌^◌}
use Rattle.dem_model.specs.Cells.{Lattice, Region, Span}
use Rattle.dem_num.specs.Vectors.{widened, Within}
use Rattle.dem_model.specs.Sound.{IsFrom}
use Rattle.dem_model.specs.declared.limits.TheConstants.{MAX_OFFSET, MAX_RADIUS}
use Rattle.dem_model.specs.declared.shape.Ball.{Ball}
use Rattle.dem_pack.specs.declared.layout.Layout.{Layout}
use Rattle.dem_pack.specs.declared.place.Stretch.{Stretch}

-- a stretch as a span
abbrev pub span_of : Stretch → Span
span_of s = record { low = s.low; high = s.high }

-- the lattice of a layout
abbrev pub lattice_in : Layout → Lattice
lattice_in l = record { extent = l.extent; pitch = l.pitch; shift = l.shift; rise = l.rise }

-- the region of a layout
abbrev pub region_in : Layout → Region
region_in l = record { x = span_of l.x; y = span_of l.y; z = span_of l.z }

-- a stretch ends at most at 2^36
pub record IsStretch (s : Stretch) : Type 0 where
  pub low : s.low ≤ 2 ^ 36
  pub high : s.high ≤ 2 ^ 36

-- the numbers of a layout are within their ranges
pub record IsLayout (l : Layout) : Type 0 where
  pub extent : IsFrom 1 (2 ^ 28) l.extent
  pub pitch : IsFrom 1 (2 ^ 30) l.pitch
  pub shift : l.shift ≤ 2 ^ 30
  pub rise : IsFrom 1 (2 ^ 30) l.rise
  pub x : IsStretch l.x
  pub y : IsStretch l.y
  pub z : IsStretch l.z

-- a sphere is within the ranges of a template, whatever its material
pub record IsSized (b : Ball) : Type 0 where
  pub at : Within (widened b.at) MAX_OFFSET
  pub r : IsFrom 1 MAX_RADIUS b.r
