-- Cell number n: in which layer it is, and where in it.
use Rattle.std.proofs.Common.{◌≡◌, ℕ, suc, ◌+◌, ◌-◌, ◌*◌, ◌/◌, ◌%◌, ◌<◌, ◌≤◌, List, ◌++◌, map, length, Some, nat_lt, refl, sym, ap, ◌∙◌, ⊎_elim, subst, arith}
use Rattle.std.specs.Prelude.{slice_get, if◌then◌else◌}
use Rattle.std.specs.List.{flat_map, range_with_len}
use Rattle.std.proofs.lemmas.Bool.{cases_lt, lt-ltb, le-ltb}
use Rattle.std.proofs.lemmas.Nat.{div-mul-add, mod-mul-add, div-add-mod', mod_below, div_below, mul-le}
use Rattle.std.proofs.lemmas.List.FromFn.{length-map-range_with_len, get_or-map-range_with_len}
use Rattle.std.proofs.lemmas.Option.{slice_get-get_or}
use Rattle.dem_num.specs.declared.vector.Vec3.{Vec3}
use Rattle.dem_model.specs.Cells.{Lattice, Region, layer_of, layer_count, cells_of}
use Rattle.dem_pack.specs.Layers.{columns_of, rows_of, layer_size, cell_in}
use Rattle.dem_pack.proofs.RangeFacts.{map-join, flat_map-more, map-rows, flat_map-twos}
use Rattle.dem_pack.proofs.LayerFacts.{layer-cells, even-size, odd-size, cell-count}

-- a layer with a cell has columns
pub has-columns : (l : Lattice) (region : Region) (k m : ℕ) → m < layer_size l region k → 0 < columns_of l region k
unfolding layer_size
has-columns l region k m there =
    ⊎_elim
    (λ (some : 0 < columns_of l region k). some)
    (λ (none : columns_of l region k ≤ 0).
    let no-columns : columns_of l region k ≡ 0 = omega arith in
    absurd (let gone : m < 0 * rows_of l region k = subst (λ n. m < n * rows_of l region k) no-columns there in omega arith))
    (cases_lt 0 (columns_of l region k))

-- the row of a cell is one of its layer's
pub in-row : (l : Lattice) (region : Region) (k m : ℕ) → m < layer_size l region k → m / columns_of l region k < rows_of l region k
unfolding layer_size
in-row l region k m there =
    let some = has-columns' in
    div_below m (columns_of l region k) (rows_of l region k) some (let c = columns_of l region k in let r = rows_of l region k in let swap : c * r ≡ r * c = grind arith in subst (λ n. m < n) swap there)
  where
    has-columns' : 0 < columns_of l region k
    has-columns' = has-columns l region k m there

-- the number of cells of two layers, even and odd
abbrev pub both-size : Lattice → Region → ℕ
both-size l region = layer_size l region 0 + layer_size l region 1

-- cell number m of two layers
abbrev pub cell-of-two : Lattice → Region → (p m : ℕ) → Vec3
cell-of-two l region p m = if nat_lt m (layer_size l region 0) then cell_in l region (2 * p) m else cell_in l region (2 * p + 1) (m - layer_size l region 0)

module _ (l : Lattice) (region : Region) where
  two-layers : (p : ℕ) → layer_of l region (2 * p) ++ layer_of l region (2 * p + 1) ≡ map (cell-of-two l region p) (range_with_len 0 (both-size l region))
  two-layers p =
      let a = layer_size l region 0 in
      let b = layer_size l region 1 in
      let even : layer_of l region (2 * p) ≡ map (cell_in l region (2 * p)) (range_with_len 0 a) =
      layer-cells l region (2 * p) ∙ ap (λ n. map (cell_in l region (2 * p)) (range_with_len 0 n)) (even-size l region p) in
      let odd : layer_of l region (2 * p + 1) ≡ map (cell_in l region (2 * p + 1)) (range_with_len 0 b) =
      layer-cells l region (2 * p + 1) ∙ ap (λ n. map (cell_in l region (2 * p + 1)) (range_with_len 0 n)) (odd-size l region p) in
      ap (λ xs. xs ++ layer_of l region (2 * p + 1)) even ∙ ap (λ ys. map (cell_in l region (2 * p)) (range_with_len 0 a) ++ ys) odd
      ∙ map-join (cell_in l region (2 * p)) (cell_in l region (2 * p + 1)) (cell-of-two l region p) a b
      (λ i lt. let low = lt-ltb i a lt in sym (ap (λ t. if t then cell_in l region (2 * p) i else cell_in l region (2 * p + 1) (i - a)) low))
      (λ i lt.
      let high = le-ltb (a + i) a (omega arith) in
      let back : a + i - a ≡ i = omega arith in
      sym (ap (λ t. if t then cell_in l region (2 * p) (a + i) else cell_in l region (2 * p + 1) (a + i - a)) high ∙ ap (cell_in l region (2 * p + 1)) back))

  -- cell number n of all layers
  abbrev pub cell-number : ℕ → Vec3
  cell-number n = cell-of-two l region (n / both-size l region) (n % both-size l region)

  even-cells : 0 < both-size l region → (p : ℕ) → flat_map (layer_of l region) (range_with_len 0 (2 * p)) ≡ map cell-number (range_with_len 0 (p * both-size l region))
  even-cells some p =
      flat_map-twos (layer_of l region) p ∙ ap (λ (f : ℕ → List Vec3). flat_map f (range_with_len 0 p)) (λ i k. two-layers k i)
      ∙ map-rows (cell-of-two l region) (both-size l region) some p

  odd-cells : 0 < both-size l region → (p : ℕ) → flat_map (layer_of l region) (range_with_len 0 (2 * p + 1)) ≡ map cell-number (range_with_len 0 (p * both-size l region + layer_size l region 0))
  odd-cells some p =
      let next : 2 * p + 1 ≡ suc (2 * p) = omega arith in
      let a = layer_size l region 0 in
      let n = both-size l region in
      ap (λ s. flat_map (layer_of l region) (range_with_len 0 s)) next ∙ flat_map-more (layer_of l region) (2 * p)
      ∙ ap (λ xs. xs ++ layer_of l region (2 * p)) (even-cells some p)
      ∙ ap (λ ys. map cell-number (range_with_len 0 (p * n)) ++ ys)
      (layer-cells l region (2 * p) ∙ ap (λ m. map (cell_in l region (2 * p)) (range_with_len 0 m)) (even-size l region p))
      ∙ map-join cell-number (cell_in l region (2 * p)) cell-number (p * n) a (λ i lt. refl)
      (λ i lt.
      let small : i < n = omega arith in
      let low = lt-ltb i a lt in
      sym
      (ap (λ q. cell-of-two l region q ((p * n + i) % n)) (div-mul-add p n i small) ∙ ap (cell-of-two l region p) (mod-mul-add p n i small)
      ∙ ap (λ t. if t then cell_in l region (2 * p) i else cell_in l region (2 * p + 1) (i - a)) low))

  -- all cells by their numbers
  pub cells-by-number : 0 < both-size l region → cells_of l region ≡ map cell-number (range_with_len 0 (length (cells_of l region)))
  unfolding cells_of
  cells-by-number some =
      let layers = layer_count l region in
      let p = layers / 2 in
      let a = layer_size l region 0 in
      let n = both-size l region in
      let cells = λ (k : ℕ). flat_map (layer_of l region) (range_with_len 0 k) in
      let sized = λ (k s : ℕ) (e : cells k ≡ map cell-number (range_with_len 0 s)). e ∙ ap (λ m. map cell-number (range_with_len 0 m)) (sym (ap length e ∙ length-map-range_with_len cell-number 0 s)) in
      ⊎_elim
      (λ (even : layers % 2 < 1).
      let is : layers ≡ 2 * p = omega arith in
      sized layers (p * n) (ap cells is ∙ even-cells some p))
      (λ (odd : 1 ≤ layers % 2).
      let is : layers ≡ 2 * p + 1 = omega arith in
      sized layers (p * n + a) (ap cells is ∙ odd-cells some p))
      (cases_lt (layers % 2) 1)

  -- where there is a cell, two layers have one
  pub has-both : (n : ℕ) → n < length (cells_of l region) → 0 < both-size l region
  unfolding cells_of
  has-both n there =
      let layers = layer_count l region in
      let count = cell-count l region layers in
      ⊎_elim
      (λ (some : 0 < both-size l region). some)
      (λ (none : both-size l region ≤ 0).
      let a : layer_size l region 0 ≡ 0 = omega arith in
      let b : layer_size l region 1 ≡ 0 = omega arith in
      absurd (let gone : n < (layers - layers / 2) * 0 + layers / 2 * 0 = subst (λ s. n < s) (count ∙ ap (λ s. (layers - layers / 2) * s + layers / 2 * layer_size l region 1) a ∙ ap (λ s. (layers - layers / 2) * 0 + layers / 2 * s) b) there in omega arith))
      (cases_lt 0 (both-size l region))

  -- the cell of this number
  pub slice_get-cells : (n : ℕ) → n < length (cells_of l region) → slice_get (cells_of l region) n ≡ Some (cell-number n)
  slice_get-cells n there =
      let total = length (cells_of l region) in
      let same = cells-by-number (has-both n there) in
      ap (λ xs. slice_get xs n) same
      ∙ slice_get-get_or (map cell-number (range_with_len 0 total)) n (cell-number 0) (omega (arith, length-map-range_with_len cell-number 0 total))
      ∙ ap Some (get_or-map-range_with_len cell-number 0 total n n (cell-number 0) there (omega arith))

  -- a cell in the even layer of its two
  pub even-there : (n : ℕ) → n < length (cells_of l region) → n % both-size l region < layer_size l region 0 → 2 * (n / both-size l region) < layer_count l region
  unfolding cells_of
  even-there n there low =
      let layers = layer_count l region in
      let q = layers / 2 in
      let a = layer_size l region 0 in
      let b = layer_size l region 1 in
      let s = both-size l region in
      let p = n / s in
      let count = cell-count l region layers in
      let parts = div-add-mod' n s in
      ⊎_elim
      (λ (lt : 2 * p < layers). lt)
      (λ (more : layers ≤ 2 * p).
      let less : layers - q ≤ p = omega arith in
      let less' : q ≤ p = omega arith in
      let one = mul-le (layers - q) a p a less (omega arith) in
      let two = mul-le q b p b less' (omega arith) in
      let spread : p * s ≡ p * a + p * b = grind arith in
      absurd (omega (arith, one, two, spread, parts, count, there)))
      (cases_lt (2 * p) layers)

  -- a cell in the odd layer of its two
  pub odd-there : (n : ℕ) → n < length (cells_of l region) → layer_size l region 0 ≤ n % both-size l region → 2 * (n / both-size l region) + 1 < layer_count l region
  unfolding cells_of
  odd-there n there high =
      let layers = layer_count l region in
      let q = layers / 2 in
      let a = layer_size l region 0 in
      let b = layer_size l region 1 in
      let s = both-size l region in
      let p = n / s in
      let count = cell-count l region layers in
      let parts = div-add-mod' n s in
      ⊎_elim
      (λ (lt : 2 * p + 1 < layers). lt)
      (λ (more : layers ≤ 2 * p + 1).
      let less : layers - q ≤ p + 1 = omega arith in
      let less' : q ≤ p = omega arith in
      let one = mul-le (layers - q) a (p + 1) a less (omega arith) in
      let two = mul-le q b p b less' (omega arith) in
      let spread : p * s ≡ p * a + p * b = grind arith in
      let spread' : (p + 1) * a ≡ p * a + a = grind arith in
      absurd (omega (arith, one, two, spread, spread', parts, count, there, high)))
      (cases_lt (2 * p + 1) layers)

  -- where it is in its layer
  pub even-within : (n : ℕ) → n % both-size l region < layer_size l region 0 → n % both-size l region < layer_size l region (2 * (n / both-size l region))
  even-within n low = subst (λ m. n % both-size l region < m) (sym (even-size l region (n / both-size l region))) low

  pub odd-within : (n : ℕ) → n < length (cells_of l region) → layer_size l region 0 ≤ n % both-size l region
      → n % both-size l region - layer_size l region 0 < layer_size l region (2 * (n / both-size l region) + 1)
  odd-within n there high =
      let below = mod_below n (both-size l region) (has-both n there) in
      let within : n % both-size l region - layer_size l region 0 < layer_size l region 1 = omega (arith, below, high) in
      subst (λ m. n % both-size l region - layer_size l region 0 < m) (sym (odd-size l region (n / both-size l region))) within
