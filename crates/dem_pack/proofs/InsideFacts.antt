-- Cells lie in their region, as deep as a template reaches; so its spheres do.
use Rattle.std.proofs.Common.{ℕ, ◌+◌, ◌<◌, ◌≤◌, ℤ, pos, map, arith, sym, subst}
use Rattle.std.specs.Prelude.{All, ◌+ℤ◌, ◌-ℤ◌, ◌≤ℤ◌, unsigned_abs}
use Rattle.std.specs.List.{range_with_len}
use Rattle.std.proofs.lemmas.Int.{ints}
use Rattle.dem_num.specs.declared.vector.Vec3.{Vec3}
use Rattle.dem_num.specs.declared.vector.Wide3.{Wide3}
use Rattle.dem_model.specs.Cells.{Lattice, Region, Span, cells_of, layer_of, layer_count, place_at, place_count, region_between, shift_at, reach_of}
use Rattle.dem_model.specs.Packing.{LiesBetween, center_in}
use Rattle.dem_model.specs.Sound.{IsBetween, EachBetween}
use Rattle.dem_model.specs.declared.shape.Ball.{Ball}
use Rattle.dem_model.specs.declared.state.Stand.{Stand}
use Rattle.dem_pack.specs.Layers.{columns_of, rows_of, grid_cell}
use Rattle.dem_pack.proofs.LayerFacts.{layer-rows}
use Rattle.dem_pack.proofs.ListFacts.{All-range, All-rows}
use Rattle.dem_pack.proofs.SpaceFacts.{center-is}
use Rattle.dem_pack.proofs.SpanFacts.{place-inside}

-- a place of a stretch, so far from both ends
pub record IsDeep (extent : ℕ) (s : Span) (z : ℤ) : Type 0 where
  pub low : (pos (s.low + extent)) ≤ℤ z
  pub high : (z +ℤ pos extent) ≤ℤ (pos s.high)

-- a cell, so far from each side of its region
pub record IsDeepCell (extent : ℕ) (region : Region) (p : Vec3) : Type 0 where
  pub x : IsDeep extent region.x p.x
  pub y : IsDeep extent region.y p.y
  pub z : IsDeep extent region.z p.z

deep-place : (extent pitch shift i : ℕ) (s : Span) → i < place_count extent pitch (record { low = s.low + shift; high = s.high }) → IsDeep extent s (pos (place_at extent pitch (s.low + shift) i))
unfolding place_at
deep-place extent pitch shift i s there =
    let inside = place-inside extent pitch (record { low = s.low + shift; high = s.high }) i there in
    record { low = omega (arith, ints); high = omega (arith, ints, inside) }

deep-layer : (extent pitch i : ℕ) (s : Span) → i < place_count extent pitch s → IsDeep extent s (pos (place_at extent pitch s.low i))
unfolding place_at
deep-layer extent pitch i s there =
    let inside = place-inside extent pitch s i there in
    record { low = omega (arith, ints); high = omega (arith, ints, inside) }

deep-cell : (l : Lattice) (region : Region) (k j i : ℕ) → k < layer_count l region → j < rows_of l region k → i < columns_of l region k → IsDeepCell l.extent region (grid_cell l region k j i)
unfolding grid_cell layer_count
deep-cell l region k j i layer row column = record {
  x = deep-place l.extent l.pitch (shift_at l k) i region.x column;
  y = deep-place l.extent l.pitch (shift_at l k) j region.y row;
  z = deep-layer l.extent l.rise k region.z layer;
}

-- each cell of a region
pub deep-cells : (l : Lattice) (region : Region) → All (IsDeepCell l.extent region) (cells_of l region)
unfolding cells_of
deep-cells l region =
    All-rows (IsDeepCell l.extent region) (layer_of l region) (layer_count l region)
    (λ k layer. subst (λ xs. All (IsDeepCell l.extent region) xs) (sym (layer-rows l region k))
    (All-rows (IsDeepCell l.extent region) (λ j. map (grid_cell l region k j) (range_with_len 0 (columns_of l region k))) (rows_of l region k)
    (λ j row. All-range (IsDeepCell l.extent region) (grid_cell l region k j) (columns_of l region k) (λ i column. deep-cell l region k j i layer row column))))

-- a sphere that reaches no farther lies in the stretch with its whole radius
inside-axis : (lo hi p o : ℤ) (extent r : ℕ) → pos 0 ≤ℤ lo → pos 0 ≤ℤ hi → IsDeep extent (record { low = unsigned_abs lo; high = unsigned_abs hi }) p → unsigned_abs o + r ≤ extent
    → IsBetween (lo +ℤ pos r) (hi -ℤ pos r) (p +ℤ o)
inside-axis lo hi p o extent r low high deep reach =
    let a = deep.low in
    let b = deep.high in
    record { low_le = omega (arith, ints); le_high = omega (arith, ints) }

-- how far a sphere reaches on each axis
pub reach-x : (b : Ball) (extent : ℕ) → reach_of b ≤ extent → unsigned_abs b.at.x + b.r ≤ extent
unfolding reach_of
reach-x b extent few = omega arith

pub reach-y : (b : Ball) (extent : ℕ) → reach_of b ≤ extent → unsigned_abs b.at.y + b.r ≤ extent
unfolding reach_of
reach-y b extent few = omega arith

pub reach-z : (b : Ball) (extent : ℕ) → reach_of b ≤ extent → unsigned_abs b.at.z + b.r ≤ extent
unfolding reach_of
reach-z b extent few = omega arith

-- a sphere of a stand at a cell lies in the region
pub lies-between : (lo hi : Vec3) (m extent : ℕ) (x : Stand) (b : Ball) → EachBetween (pos 0) (pos m) lo → EachBetween (pos 0) (pos m) hi
    → IsDeepCell extent (region_between lo hi) x.p → reach_of b ≤ extent → LiesBetween lo hi (center_in x b) b.r
lies-between lo hi m extent x b low high deep reach =
    subst (λ (c : Wide3). LiesBetween lo hi c b.r) (sym (center-is x b))
    (record {
      x = inside-axis lo.x hi.x x.p.x b.at.x extent b.r low.x.low_le high.x.low_le deep.x (reach-x b extent reach);
      y = inside-axis lo.y hi.y x.p.y b.at.y extent b.r low.y.low_le high.y.low_le deep.y (reach-y b extent reach);
      z = inside-axis lo.z hi.z x.p.z b.at.z extent b.r low.z.low_le high.z.low_le deep.z (reach-z b extent reach);
    })
