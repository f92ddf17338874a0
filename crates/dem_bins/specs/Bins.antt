-- A grid of bins: its side, the cells that a sphere meets, and how many tests a list may take.
use Rattle.std.specs.Prelude.{ℕ, ℤ, pos, ◌+◌, ◌*◌, ◌/◌, ◌^◌, ◌<◌, ◌≤◌, ◌==◌, ◌+ℤ◌, ◌-ℤ◌, List, length, map, max, unsigned_abs, if◌then◌else◌}
use Rattle.std.specs.Int.{int_div_euclid, int_min, int_max}
use Rattle.std.specs.List.{fold, range_with_len, sum_by}
use Rattle.dem_num.specs.declared.vector.Vec3.{Vec3}
use Rattle.dem_model.specs.SceneValue.{SceneValue}
use Rattle.dem_model.specs.Centers.{center_at}
use Rattle.dem_model.specs.Near.{reach_of}
use Rattle.dem_model.specs.Pairs.{sphere_count}
use Rattle.dem_bins.specs.declared.grid.TheConstants.{MAX_CELLS}

-- a grid as contracts see it: the drift limit of its lists, and the side of its bins
pub record GridValue : Type 0 where
  pub drift : ℕ
  pub bin : ℕ

-- the farthest that any sphere of the scene may reach in so many steps
unfoldable pub greatest_reach : SceneValue → ℕ → ℕ
greatest_reach s drift = fold max 0 (map (reach_of s drift) (range_with_len 0 (sphere_count s)))

-- the side of the bins: as it is given, or the greatest reach where it is given as 0
unfoldable pub side_of : ℕ → ℕ → ℕ
side_of bin greatest = if bin == 0 then greatest else bin

-- the grid that is asked for by a drift limit and a side
unfoldable pub grid_of : SceneValue → ℕ → ℕ → GridValue
grid_of s drift bin = record { drift = drift; bin = side_of bin (greatest_reach s drift) }

-- how many cells on one axis a sphere may meet at most: a closed interval of twice the greatest reach
unfoldable pub cells_across : SceneValue → GridValue → ℕ
cells_across s g = 2 * greatest_reach s g.drift / g.bin + 2

-- the grid is one for this scene: no sphere meets more cells on an axis than are allowed
pub record IsGridOf (s : SceneValue) (g : GridValue) : Type 0 where
  pub drift : g.drift ≤ 1024
  pub some : 0 < g.bin
  pub most : g.bin ≤ 2 ^ 38
  pub few : cells_across s g ≤ MAX_CELLS

-- the cell in which a coordinate lies: the floor of its quotient by the side, which may be negative
unfoldable pub cell_at : ℕ → ℤ → ℤ
cell_at bin x = int_div_euclid x (pos bin)

-- how many cells on one axis two closed intervals both meet, each given by its middle and its reach
unfoldable pub cells_shared : ℕ → ℤ → ℕ → ℤ → ℕ → ℕ
cells_shared bin c r d q =
    let low = int_max (cell_at bin (c -ℤ pos r)) (cell_at bin (d -ℤ pos q)) in
    let high = int_min (cell_at bin (c +ℤ pos r)) (cell_at bin (d +ℤ pos q)) in
    unsigned_abs (int_max (pos 0) (high +ℤ pos 1 -ℤ low))

-- how many bins the boxes of two spheres both meet: on each axis from the center less the reach to the center and the reach
unfoldable pub bins_shared : SceneValue → GridValue → List Vec3 → ℕ → ℕ → ℕ
bins_shared s g centers a b =
    let ra = reach_of s g.drift a in
    let rb = reach_of s g.drift b in
    cells_shared g.bin (center_at centers a).x ra (center_at centers b).x rb
    * cells_shared g.bin (center_at centers a).y ra (center_at centers b).y rb
    * cells_shared g.bin (center_at centers a).z ra (center_at centers b).z rb

-- how many tests a list takes at most: for each pair of spheres one in each bin that both boxes meet, and one for each sphere and wall
unfoldable pub most_tests : SceneValue → GridValue → List Vec3 → ℕ
most_tests s g centers =
    sum_by (λ b. sum_by (λ a. bins_shared s g centers a b) (range_with_len 0 b)) (range_with_len 0 (sphere_count s))
    + sphere_count s * length s.walls
