-- Spheres in columns of bins: a key per sphere and column, whose order is by column, then by the sphere's lowest cell there.
use Rattle.std.specs.Prelude.{ℕ, ◌+◌, ◌-◌, ◌*◌, ◌/◌, ◌%◌, ◌<◌, List, length, map}
use Rattle.std.specs.List.{flat_map, range_with_len}
use Rattle.dem_bins.specs.Blocks.{block_at}
use Rattle.dem_bins.specs.declared.blocks.Block.{Block}
use Rattle.dem_bins.specs.declared.blocks.Span.{Span}
use Rattle.dem_bins.specs.declared.keys.TheConstants.{CELLS, SPHERES}

-- a column of bins, by its cells on the first two axes
unfoldable pub column_of : ℕ → ℕ → ℕ
column_of x y = x * CELLS + y

-- the key of a sphere in a column, from its lowest cell there and its number
unfoldable pub key_of : ℕ → ℕ → ℕ → ℕ
key_of column low i = (column * CELLS + low) * SPHERES + i

-- the sphere of a key
unfoldable pub sphere_in : ℕ → ℕ
sphere_in k = k % SPHERES

-- the column of a key
unfoldable pub column_in : ℕ → ℕ
column_in k = k / SPHERES / CELLS

-- the cells of a span
unfoldable pub cells_in : Span → List ℕ
cells_in a = range_with_len a.low (a.high + 1 - a.low)

-- the keys of a sphere in the columns of one row of its block
unfoldable pub row_keys : Block → ℕ → ℕ → List ℕ
row_keys b i x = map (λ y. key_of (column_of x y) b.z.low i) (cells_in b.y)

-- the keys of a sphere, one for each column that its block meets
unfoldable pub own_keys : Block → ℕ → List ℕ
own_keys b i = flat_map (row_keys b i) (cells_in b.x)

-- the keys of all spheres
unfoldable pub keys_of : List Block → List ℕ
keys_of bs = flat_map (λ i. own_keys (block_at bs i) i) (range_with_len 0 (length bs))

-- a key is small, and names a sphere
pub record IsKey (bs : List Block) (k : ℕ) : Type 0 where
  pub small : k < CELLS * CELLS * CELLS * SPHERES
  pub sphere : sphere_in k < length bs
