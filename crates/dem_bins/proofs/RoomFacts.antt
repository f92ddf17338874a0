-- How many pairs a walk can find: of two spheres at most one.
use Rattle.std.proofs.Common.{◌≡◌, ℕ, ◌*◌, ◌<◌, ◌≤◌, List, [], length, refl, ◌∙◌, arith, Bool, true, false, inl, inr}
use Rattle.std.specs.Prelude.{◌==◌, ◌&&◌, All, max}
use Rattle.std.specs.List.{flat_map, sum_by}
use Rattle.std.specs.List.Sorted.{IsPermutation}
use Rattle.std.proofs.lemmas.Bool.{cases_Bool, eq-eqb, eqb-true}
use Rattle.std.proofs.lemmas.Nat.{mul-le}
use Rattle.std.proofs.lemmas.List.Concat.{length-flat_map}
use Rattle.dem_num.specs.declared.vector.Vec3.{Vec3}
use Rattle.dem_model.specs.SceneValue.{SceneValue}
use Rattle.dem_model.specs.Near.{near}
use Rattle.dem_model.specs.Pairs.{apart}
use Rattle.dem_model.specs.declared.state.Pair.{Pair}
use Rattle.dem_margin.specs.NearList.{pair_if_near}
use Rattle.dem_bins.specs.Blocks.{block_at, IsBlock}
use Rattle.dem_bins.specs.Keys.{column_of, key_of, sphere_in, column_in, own_keys, keys_of}
use Rattle.dem_bins.specs.Walk.{meets, first_column, pair_in, visited, met, row_of, rows_of}
use Rattle.dem_bins.specs.declared.blocks.Block.{Block}
use Rattle.dem_bins.specs.declared.keys.TheConstants.{CELLS, SPHERES}
use Rattle.dem_bins.proofs.SumFacts.{mark, total, total-le, total-product, total-at, total-const, sum-same}
use Rattle.dem_bins.proofs.KeyFacts.{AreMet, meets-parts, column_of-same, sphere_in-key, column_in-key}
use Rattle.dem_bins.proofs.CountFacts.{width, span-small, block-small, two_keys-le, keys_of-pairs, moved-pairs, block_at-good}

pub pair_if_near-short : (s : SceneValue) (drift : ℕ) (cs : List Vec3) (p : Pair) → length (pair_if_near s drift cs p) ≤ 1
pair_if_near-short s drift cs p =
    elim (cases_Bool (apart s p && near s drift cs p)) [
      | inl e ↦ rw e (omega arith)
      | inr e ↦ rw e (omega arith)
    ]

pub visited-short : (s : SceneValue) (drift : ℕ) (cs : List Vec3) (bs : List Block) (e d : ℕ) → length (visited s drift cs bs e d) ≤ 1
unfolding visited
visited-short s drift cs bs e d =
    elim (cases_Bool (first_column (block_at bs (sphere_in e)) (block_at bs (sphere_in d)) == column_in e)) [
      | inl t ↦ rw t (pair_if_near-short s drift cs (pair_in e d))
      | inr t ↦ rw t (omega arith)
    ]

-- what is visited of two keys whose column isn't the first
visited-elsewhere : (s : SceneValue) (drift : ℕ) (cs : List Vec3) (bs : List Block) (e d : ℕ) →
    (first_column (block_at bs (sphere_in e)) (block_at bs (sphere_in d)) == column_in e) ≡ false → visited s drift cs bs e d ≡ []
unfolding visited
visited-elsewhere s drift cs bs e d t = rw t refl

-- the two cells of the first column that two blocks share
abbrev pub first_x : Block → Block → ℕ
first_x a b = max a.x.low b.x.low

abbrev pub first_y : Block → Block → ℕ
first_y a b = max a.y.low b.y.low

abbrev at_first : ℕ → ℕ → ℕ → ℕ
at_first c x u = mark (c == x) * mark (c == u)

-- a pair is found in the first column alone
found-first : (s : SceneValue) (drift : ℕ) (cs : List Vec3) (bs : List Block) (i j x y u v : ℕ) → IsBlock (block_at bs i) → IsBlock (block_at bs j) → i < SPHERES → j < SPHERES → y < CELLS → v < CELLS →
    AreMet (column_of x y) (block_at bs i).z.low i (block_at bs i).z.high (column_of u v) (block_at bs j).z.low j →
    (t : Bool) → (first_column (block_at bs (sphere_in (key_of (column_of x y) (block_at bs i).z.low i))) (block_at bs (sphere_in (key_of (column_of u v) (block_at bs j).z.low j))) == column_in (key_of (column_of x y) (block_at bs i).z.low i)) ≡ t →
    length (visited s drift cs bs (key_of (column_of x y) (block_at bs i).z.low i) (key_of (column_of u v) (block_at bs j).z.low j))
    ≤ at_first (first_x (block_at bs i) (block_at bs j)) x u * at_first (first_y (block_at bs i) (block_at bs j)) y v
unfolding first_column
found-first s drift cs bs i j x y u v gi gj il jl yl vl met true t =
    let a : Block = block_at bs i in
    let b : Block = block_at bs j in
    let same : (x ≡ u) × (y ≡ v) = column_of-same x y u v yl vl met.column in
    let low : (block_at bs i).z.low < CELLS = omega (arith, gi.z.order, gi.z.small) in
    let first : (first_column (block_at bs i) (block_at bs j) == column_of x y) ≡ true =
    rw (sphere_in-key (column_of x y) (block_at bs i).z.low i il, sphere_in-key (column_of u v) (block_at bs j).z.low j jl, column_in-key (column_of x y) (block_at bs i).z.low i low il) at t in
    let is : (first_x (block_at bs i) (block_at bs j) ≡ x) × (first_y (block_at bs i) (block_at bs j) ≡ y) =
    column_of-same (first_x (block_at bs i) (block_at bs j)) (first_y (block_at bs i) (block_at bs j)) x y (omega (arith, gi.y.order, gi.y.small, gj.y.order, gj.y.small)) yl (eqb-true (first_column (block_at bs i) (block_at bs j)) (column_of x y) first) in
    rw (
      eq-eqb (first_x (block_at bs i) (block_at bs j)) x is.0,
      eq-eqb (first_x (block_at bs i) (block_at bs j)) u (is.0 ∙ same.0),
      eq-eqb (first_y (block_at bs i) (block_at bs j)) y is.1,
      eq-eqb (first_y (block_at bs i) (block_at bs j)) v (is.1 ∙ same.1),
    )
    (omega (arith, visited-short s drift cs bs (key_of (column_of x y) (block_at bs i).z.low i) (key_of (column_of u v) (block_at bs j).z.low j)))
found-first s drift cs bs i j x y u v gi gj il jl yl vl met false t =
    rw (visited-elsewhere s drift cs bs (key_of (column_of x y) (block_at bs i).z.low i) (key_of (column_of u v) (block_at bs j).z.low j) t) (omega arith)

met-first : (s : SceneValue) (drift : ℕ) (cs : List Vec3) (bs : List Block) (i j x y u v : ℕ) → IsBlock (block_at bs i) → IsBlock (block_at bs j) → i < SPHERES → j < SPHERES → y < CELLS → v < CELLS →
    length (met s drift cs bs (key_of (column_of x y) (block_at bs i).z.low i) (key_of (column_of u v) (block_at bs j).z.low j))
    ≤ at_first (first_x (block_at bs i) (block_at bs j)) x u * at_first (first_y (block_at bs i) (block_at bs j)) y v
unfolding met
met-first s drift cs bs i j x y u v gi gj il jl yl vl =
    elim (cases_Bool (meets bs (key_of (column_of x y) (block_at bs i).z.low i) (key_of (column_of u v) (block_at bs j).z.low j))) [
      | inl e ↦
          rw e (found-first s drift cs bs i j x y u v gi gj il jl yl vl
          (meets-parts bs (column_of x y) (block_at bs i).z.low i (column_of u v) (block_at bs j).z.low j (block-small (block_at bs i) (block_at bs j) i j gi gj il jl) e).0
          (first_column (block_at bs (sphere_in (key_of (column_of x y) (block_at bs i).z.low i))) (block_at bs (sphere_in (key_of (column_of u v) (block_at bs j).z.low j))) == column_in (key_of (column_of x y) (block_at bs i).z.low i)) refl)
      | inr e ↦ rw e (omega arith)
    ]

-- a cell is at most once in a range, and so is it twice in two
once : (c k m l n : ℕ) → total (λ x. total (λ u. at_first c x u) l n) k m ≤ 1
once c k m l n =
    let one : total (λ i. mark (c == i)) k m ≤ 1 = omega (arith, total-at c k m) in
    let two : total (λ i. mark (c == i)) l n ≤ 1 = omega (arith, total-at c l n) in
    let both : total (λ i. mark (c == i)) k m * total (λ i. mark (c == i)) l n ≤ 1 * 1 = mul-le (total (λ i. mark (c == i)) k m) (total (λ i. mark (c == i)) l n) 1 1 one two in
    rw (total-product (λ x. mark (c == x)) (λ u. mark (c == u)) k m l n) (omega (arith, both))

-- how many pairs the keys of two spheres find
abbrev pub found_of : SceneValue → ℕ → List Vec3 → List Block → ℕ → ℕ → ℕ
found_of s drift cs bs i j = sum_by (λ e. sum_by (λ d. length (met s drift cs bs e d)) (own_keys (block_at bs j) j)) (own_keys (block_at bs i) i)

found_of-le : (s : SceneValue) (drift : ℕ) (cs : List Vec3) (bs : List Block) (i j : ℕ) → IsBlock (block_at bs i) → IsBlock (block_at bs j) → i < SPHERES → j < SPHERES → found_of s drift cs bs i j ≤ 1
found_of-le s drift cs bs i j gi gj il jl =
    let a : Block = block_at bs i in
    let b : Block = block_at bs j in
    let le = two_keys-le (λ e d. length (met s drift cs bs e d)) (λ x u. at_first (first_x (block_at bs i) (block_at bs j)) x u) (λ y v. at_first (first_y (block_at bs i) (block_at bs j)) y v) (block_at bs i) (block_at bs j) i j
    (λ x y u v p q r t. met-first s drift cs bs i j x y u v gi gj il jl (span-small (block_at bs i).y y gi.y q) (span-small (block_at bs j).y v gj.y t)) in
    let both = mul-le
    (total (λ x. total (λ u. at_first (first_x (block_at bs i) (block_at bs j)) x u) (block_at bs j).x.low (width (block_at bs j).x)) (block_at bs i).x.low (width (block_at bs i).x))
    (total (λ y. total (λ v. at_first (first_y (block_at bs i) (block_at bs j)) y v) (block_at bs j).y.low (width (block_at bs j).y)) (block_at bs i).y.low (width (block_at bs i).y))
    1 1
    (once (first_x (block_at bs i) (block_at bs j)) (block_at bs i).x.low (width (block_at bs i).x) (block_at bs j).x.low (width (block_at bs j).x))
    (once (first_y (block_at bs i) (block_at bs j)) (block_at bs i).y.low (width (block_at bs i).y) (block_at bs j).y.low (width (block_at bs j).y)) in
    omega (arith, le, both)

-- a walk finds no more pairs than there are pairs of blocks
pub rows_of-le : (s : SceneValue) (drift : ℕ) (cs : List Vec3) (bs : List Block) (es : List ℕ) → All IsBlock bs → length bs ≤ SPHERES → IsPermutation (keys_of bs) es →
    length (rows_of s drift cs bs es) ≤ length bs * length bs
unfolding rows_of row_of
rows_of-le s drift cs bs es all few h =
    let sums : length (flat_map (λ e. flat_map (met s drift cs bs e) es) es) ≡ total (λ i. total (λ j. found_of s drift cs bs i j) 0 (length bs)) 0 (length bs) =
    length-flat_map (λ e. flat_map (met s drift cs bs e) es) es
    ∙ sum-same (λ e. length (flat_map (met s drift cs bs e) es)) (λ e. sum_by (λ d. length (met s drift cs bs e d)) es) es (λ e. length-flat_map (met s drift cs bs e) es)
    ∙ moved-pairs (λ e d. length (met s drift cs bs e d)) (keys_of bs) es h
    ∙ keys_of-pairs (λ e d. length (met s drift cs bs e d)) bs in
    let most : total (λ i. total (λ j. found_of s drift cs bs i j) 0 (length bs)) 0 (length bs) ≤ total (λ i. length bs) 0 (length bs) =
    total-le (λ i. total (λ j. found_of s drift cs bs i j) 0 (length bs)) (λ i. length bs) 0 (length bs)
    (λ i p q.
    let row : total (λ j. found_of s drift cs bs i j) 0 (length bs) ≤ total (λ j. 1) 0 (length bs) =
    total-le (λ j. found_of s drift cs bs i j) (λ j. 1) 0 (length bs) (λ j l m. found_of-le s drift cs bs i j (block_at-good bs i all (omega arith)) (block_at-good bs j all (omega arith)) (omega arith) (omega arith)) in
    omega (arith, row, total-const 1 0 (length bs))) in
    omega (arith, sums, most, total-const (length bs) 0 (length bs))
