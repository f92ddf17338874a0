-- The box of each sphere and the cells that it meets, as whole numbers without sign: from the fourth bin below the origin on.
use Rattle.std.specs.Prelude.{ℕ, ◌+◌, ◌-◌, ◌*◌, ◌/◌, ◌<◌, ◌≤◌, Bool, not, ◌&&◌, List, map, nat_lt, slice_index_or, unsigned_abs}
use Rattle.std.specs.List.{range_with_len}
use Rattle.dem_num.specs.declared.vector.Vec3.{Vec3}
use Rattle.dem_model.specs.SceneValue.{SceneValue}
use Rattle.dem_model.specs.Centers.{center_at}
use Rattle.dem_model.specs.Near.{reach_of}
use Rattle.dem_model.specs.Pairs.{sphere_count}
use Rattle.dem_bins.specs.Bins.{GridValue}
use Rattle.dem_bins.specs.declared.blocks.Block.{Block}
use Rattle.dem_bins.specs.declared.blocks.Span.{Span}
use Rattle.dem_bins.specs.declared.blocks.TheConstants.{WIDE}
use Rattle.dem_bins.specs.declared.keys.TheConstants.{CELLS}

-- an interval in u, four bins on so that it begins nowhere below 0, given by its middle and its reach
unfoldable pub interval_of : ℕ → ℕ → ℕ → Span
interval_of bin reach c = record { low = c + 4 * bin - reach; high = c + 4 * bin + reach }

-- the cells of a side from the lowest to the highest that an interval meets
unfoldable pub cells_of : ℕ → Span → Span
cells_of side a = record { low = a.low / side; high = a.high / side }

-- a sphere's box, the columns of some bins that it meets there, and the bins that it meets on the third
unfoldable pub block_of : SceneValue → GridValue → List Vec3 → ℕ → Block
block_of s g centers i =
    let reach = reach_of s g.drift i in
    let c = center_at centers i in
    let across = interval_of g.bin reach (unsigned_abs c.x) in
    let along = interval_of g.bin reach (unsigned_abs c.y) in
    let upright = interval_of g.bin reach (unsigned_abs c.z) in
    record {
      x = cells_of (g.bin * WIDE) across;
      y = cells_of (g.bin * WIDE) along;
      z = cells_of g.bin upright;
      across = across;
      along = along;
      upright = upright;
    }

-- those of all spheres, in the order of their numbers
unfoldable pub blocks_of : SceneValue → GridValue → List Vec3 → List Block
blocks_of s g centers = map (block_of s g centers) (range_with_len 0 (sphere_count s))

-- a span of the number 0 alone
abbrev pub no_span : Span
no_span = record { low = 0; high = 0 }

-- the block that stands where a number names none
abbrev pub no_block : Block
no_block = record { x = no_span; y = no_span; z = no_span; across = no_span; along = no_span; upright = no_span }

-- a block by the number of its sphere
unfoldable pub block_at : List Block → ℕ → Block
block_at bs i = slice_index_or bs i no_block

-- whether each of two intervals begins no later than the other ends
unfoldable pub meet_on : Span → Span → Bool
meet_on a b = not (nat_lt b.high a.low) && not (nat_lt a.high b.low)

-- whether two boxes meet as they are seen along the third axis
unfoldable pub beside : Block → Block → Bool
beside a b = meet_on a.across b.across && meet_on a.along b.along

-- the cells of a span are in order, and their numbers are small
pub record IsSpan (a : Span) : Type 0 where
  pub order : a.low ≤ a.high
  pub small : a.high + 1 < CELLS

-- so are those of a block
pub record IsBlock (b : Block) : Type 0 where
  pub x : IsSpan b.x
  pub y : IsSpan b.y
  pub z : IsSpan b.z
