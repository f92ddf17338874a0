-- The cells of a lattice by number.
use Rattle.std.proofs.Common.{◌≡◌, ℕ, zero, suc, ◌+◌, ◌-◌, ◌*◌, ◌/◌, ◌%◌, ◌<◌, ◌≤◌, List, map, length, length-append, sym, ap, ◌∙◌, ⊎_elim, arith}
use Rattle.std.specs.Prelude.{if◌then◌else◌, ◌==◌}
use Rattle.std.specs.List.{flat_map, range_with_len}
use Rattle.std.proofs.lemmas.Bool.{cases_lt}
use Rattle.std.proofs.lemmas.Simd.{map-map}
use Rattle.std.proofs.lemmas.List.Folds.{flat_map-map}
use Rattle.std.proofs.lemmas.List.FromFn.{length-map-range_with_len}
use Rattle.dem_num.specs.declared.vector.Vec3.{Vec3}
use Rattle.dem_model.specs.Cells.{Lattice, Region, place_at, places, place_count, shift_at, shifted_at, cell_at, cells_over, layer_of}
use Rattle.dem_pack.specs.Layers.{columns_of, rows_of, layer_size, grid_cell, cell_in}
use Rattle.dem_pack.proofs.RangeFacts.{flat_map-more, map-rows, flat_map-none}

module _ (l : Lattice) (region : Region) where
  -- a layer as rows of cells
  pub layer-rows : (k : ℕ) → layer_of l region k ≡ flat_map (λ j. map (grid_cell l region k j) (range_with_len 0 (columns_of l region k))) (range_with_len 0 (rows_of l region k))
  unfolding layer_of cells_over places grid_cell
  layer-rows k =
      let z = place_at l.extent l.rise region.z.low k in
      let xs = range_with_len 0 (columns_of l region k) in
      let ys = range_with_len 0 (rows_of l region k) in
      let x = place_at l.extent l.pitch (shifted_at l k region.x).low in
      let y = place_at l.extent l.pitch (shifted_at l k region.y).low in
      flat_map-map (λ b. map (λ a. cell_at a b z) (map x xs)) y ys
      ∙ ap (λ (f : ℕ → List Vec3). flat_map f ys) (λ i j. map-map (λ a. cell_at a (y j) z) x xs i)

  -- a layer by the numbers of its cells
  pub layer-cells : (k : ℕ) → layer_of l region k ≡ map (cell_in l region k) (range_with_len 0 (layer_size l region k))
  unfolding cell_in layer_size
  layer-cells k =
      let c = columns_of l region k in
      let r = rows_of l region k in
      let size : r * c ≡ c * r = grind arith in
      ⊎_elim
      (λ (some : 0 < c). layer-rows k ∙ map-rows (grid_cell l region k) c some r ∙ ap (λ s. map (λ m. grid_cell l region k (m / c) (m % c)) (range_with_len 0 s)) size)
      (λ (none : c ≤ 0).
      let zero-columns : c ≡ 0 = omega arith in
      let nothing : 0 * r ≡ 0 = omega arith in
      let no-cells : c * r ≡ 0 = ap (λ n. n * r) zero-columns ∙ nothing in
      layer-rows k ∙ flat_map-none (λ j. map (grid_cell l region k j) (range_with_len 0 c)) (λ j. ap (λ n. map (grid_cell l region k j) (range_with_len 0 n)) zero-columns) (range_with_len 0 r)
      ∙ sym (ap (λ s. map (λ m. grid_cell l region k (m / c) (m % c)) (range_with_len 0 s)) no-cells))
      (cases_lt 0 c)

  -- even layers are as large as the first, and odd ones as the second
  even-shift : (p : ℕ) → shift_at l (2 * p) ≡ shift_at l 0
  unfolding shift_at
  even-shift p =
      let even : 2 * p % 2 ≡ 0 = omega arith in
      ap (λ n. if n == 0 then 0 else l.shift) even

  odd-shift : (p : ℕ) → shift_at l (2 * p + 1) ≡ shift_at l 1
  unfolding shift_at
  odd-shift p =
      let odd : (2 * p + 1) % 2 ≡ 1 = omega arith in
      ap (λ n. if n == 0 then 0 else l.shift) odd

  size-by-shift : (j k : ℕ) → shift_at l j ≡ shift_at l k → layer_size l region j ≡ layer_size l region k
  unfolding layer_size
  size-by-shift j k same =
      ap (λ s. place_count l.extent l.pitch (record { low = region.x.low + s; high = region.x.high }) * place_count l.extent l.pitch (record { low = region.y.low + s; high = region.y.high })) same

  pub even-size : (p : ℕ) → layer_size l region (2 * p) ≡ layer_size l region 0
  even-size p = size-by-shift (2 * p) 0 (even-shift p)

  pub odd-size : (p : ℕ) → layer_size l region (2 * p + 1) ≡ layer_size l region 1
  odd-size p = size-by-shift (2 * p + 1) 1 (odd-shift p)

  -- how many cells the first layers have
  size-layer : (k : ℕ) → length (layer_of l region k) ≡ layer_size l region k
  size-layer k = ap length (layer-cells k) ∙ length-map-range_with_len (cell_in l region k) 0 (layer_size l region k)

  abbrev pub cells-below : ℕ → List Vec3
  cells-below n = flat_map (layer_of l region) (range_with_len 0 n)

  more-size : (n : ℕ) → length (cells-below (suc n)) ≡ length (cells-below n) + layer_size l region n
  more-size n = ap length (flat_map-more (layer_of l region) n) ∙ length-append (cells-below n) (layer_of l region n) ∙ ap (λ s. length (cells-below n) + s) (size-layer n)

  even-below : (p : ℕ) → length (cells-below (2 * p)) ≡ p * layer_size l region 0 + p * layer_size l region 1
  even-below zero = omega arith
  even-below (suc p) =
      let size : 2 * suc p ≡ suc (suc (2 * p)) = omega arith in
      let next : suc (2 * p) ≡ 2 * p + 1 = omega arith in
      let odd : layer_size l region (suc (2 * p)) ≡ layer_size l region 1 = ap (layer_size l region) next ∙ odd-size p in
      let a = more-size (2 * p) in
      let b = more-size (suc (2 * p)) in
      let e = even-size p in
      let before = even-below p in
      ap (λ s. length (cells-below s)) size ∙ grind arith

  odd-below : (p : ℕ) → length (cells-below (2 * p + 1)) ≡ (p + 1) * layer_size l region 0 + p * layer_size l region 1
  odd-below p =
      let next : 2 * p + 1 ≡ suc (2 * p) = omega arith in
      let a = more-size (2 * p) in
      let e = even-size p in
      let before = even-below p in
      ap (λ s. length (cells-below s)) next ∙ grind arith

  pub cell-count : (layers : ℕ) → length (cells-below layers) ≡ (layers - layers / 2) * layer_size l region 0 + layers / 2 * layer_size l region 1
  cell-count layers =
      let p = layers / 2 in
      ⊎_elim
      (λ (even : layers % 2 < 1).
      let is : layers ≡ 2 * p = omega arith in
      let half : layers - p ≡ p = omega arith in
      ap (λ n. length (cells-below n)) is ∙ even-below p ∙ ap (λ n. n * layer_size l region 0 + p * layer_size l region 1) (sym half))
      (λ (odd : 1 ≤ layers % 2).
      let is : layers ≡ 2 * p + 1 = omega arith in
      let half : layers - p ≡ p + 1 = omega arith in
      ap (λ n. length (cells-below n)) is ∙ odd-below p ∙ ap (λ n. n * layer_size l region 0 + p * layer_size l region 1) (sym half))
      (cases_lt (layers % 2) 1)
