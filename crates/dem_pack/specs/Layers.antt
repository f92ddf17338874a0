-- Layers by number: how many cells each has, and where each of them is.
use Rattle.std.specs.Prelude.{ℕ, ◌*◌, ◌/◌, ◌%◌}
use Rattle.dem_num.specs.declared.vector.Vec3.{Vec3}
use Rattle.dem_model.specs.Cells.{Lattice, Region, cell_at, place_at, place_count, shifted_at}

-- how many places a layer has along x
abbrev pub columns_of : Lattice → Region → ℕ → ℕ
columns_of l region k = place_count l.extent l.pitch (shifted_at l k region.x)

-- how many places a layer has along y
abbrev pub rows_of : Lattice → Region → ℕ → ℕ
rows_of l region k = place_count l.extent l.pitch (shifted_at l k region.y)

-- how many cells a layer has
unfoldable pub layer_size : Lattice → Region → ℕ → ℕ
layer_size l region k = columns_of l region k * rows_of l region k

-- the cell in a column and a row of a layer
unfoldable pub grid_cell : Lattice → Region → (k row column : ℕ) → Vec3
grid_cell l region k row column =
    cell_at
    (place_at l.extent l.pitch (shifted_at l k region.x).low column)
    (place_at l.extent l.pitch (shifted_at l k region.y).low row)
    (place_at l.extent l.rise region.z.low k)

-- cell number m of a layer: rows are filled one after the other
unfoldable pub cell_in : Lattice → Region → (k m : ℕ) → Vec3
cell_in l region k m = grid_cell l region k (m / columns_of l region k) (m % columns_of l region k)
