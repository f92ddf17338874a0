-- How many visits a walk makes, and how many pairs it can find: per two spheres, and in all.
use Rattle.std.proofs.Common.{◌≡◌, ℕ, ◌+◌, ◌*◌, ◌-◌, ◌<◌, ◌≤◌, List, length, get_or, sym, ap, ap₂, ◌∙◌, arith, subst, Bool, true, false, inl, inr}
use Rattle.std.specs.Prelude.{◌==◌, ◌&&◌, ◌/◌, not, nat_lt, All, min, max}
use Rattle.std.specs.List.{sum_by}
use Rattle.std.specs.List.Sorted.{IsPermutation}
use Rattle.std.proofs.Math.Nat.{div-div-eq-div-mul}
use Rattle.std.proofs.lemmas.Bool.{cases_Bool, eq-eqb, and_parts, and_right, ltb-false, not-true}
use Rattle.std.proofs.lemmas.Nat.{mul-le}
use Rattle.std.proofs.lemmas.List.{get_or_default}
use Rattle.std.proofs.lemmas.List.Sorted.{sum_by-IsPermutation}
use Rattle.dem_bins.specs.Blocks.{block_at, no_block, cells_of, meet_on, beside, IsBlock, IsSpan}
use Rattle.dem_bins.specs.Keys.{column_of, key_of, cells_in, row_keys, own_keys, keys_of}
use Rattle.dem_bins.specs.Walk.{meets, row_visits, rows_visits}
use Rattle.dem_bins.specs.declared.blocks.Block.{Block}
use Rattle.dem_bins.specs.declared.blocks.Span.{Span}
use Rattle.dem_bins.specs.declared.blocks.TheConstants.{WIDE}
use Rattle.dem_bins.specs.declared.keys.TheConstants.{CELLS, SPHERES}
use Rattle.dem_bins.proofs.BlockFacts.{div-le, IsWide, AreWide}
use Rattle.dem_bins.proofs.SumFacts.{mark, total, total-same, total-le, total-scale, total-product, total-common, total-paired, sum-map, sum-flat, sum-same, sum-swap}
use Rattle.dem_bins.proofs.KeyFacts.{AreMet, AreSmall, meets-parts, column_of-same, before, before-met, before-both, before-itself, shared_on, shared_on-turned}

-- how many cells a span has
abbrev pub width : Span → ℕ
width a = a.high + 1 - a.low

-- a sum over the keys of a sphere is one over its columns
pub own_keys-sum : (f : ℕ → ℕ) (b : Block) (i : ℕ) →
    sum_by f (own_keys b i) ≡ total (λ x. total (λ y. f (key_of (column_of x y) b.z.low i)) b.y.low (width b.y)) b.x.low (width b.x)
unfolding own_keys row_keys cells_in
own_keys-sum f b i =
    sum-flat f (row_keys b i) b.x.low (width b.x)
    ∙ total-same (λ x. sum_by f (row_keys b i x)) (λ x. total (λ y. f (key_of (column_of x y) b.z.low i)) b.y.low (width b.y)) b.x.low (width b.x)
    (λ x p q. sum-map f (λ y. key_of (column_of x y) b.z.low i) b.y.low (width b.y))

-- a sum over the keys of two spheres, of what is no greater than a product over their columns
pub two_keys-le : (w : ℕ → ℕ → ℕ) (f g : ℕ → ℕ → ℕ) (a b : Block) (i j : ℕ) →
    ((x y u v : ℕ) → x < a.x.low + width a.x → y < a.y.low + width a.y → u < b.x.low + width b.x → v < b.y.low + width b.y →
    w (key_of (column_of x y) a.z.low i) (key_of (column_of u v) b.z.low j) ≤ f x u * g y v) →
    sum_by (λ e. sum_by (w e) (own_keys b j)) (own_keys a i)
    ≤ total (λ x. total (λ u. f x u) b.x.low (width b.x)) a.x.low (width a.x) * total (λ y. total (λ v. g y v) b.y.low (width b.y)) a.y.low (width a.y)
two_keys-le w f g a b i j h =
    let fs : ℕ → ℕ = λ x. total (λ u. f x u) b.x.low (width b.x) in
    let gs : ℕ → ℕ = λ y. total (λ v. g y v) b.y.low (width b.y) in
    let inner : (x y : ℕ) → x < a.x.low + width a.x → y < a.y.low + width a.y → sum_by (w (key_of (column_of x y) a.z.low i)) (own_keys b j) ≤ fs x * gs y =
    λ x y p q. subst (λ (n : ℕ). n ≤ total (λ u. f x u) b.x.low (width b.x) * total (λ v. g y v) b.y.low (width b.y)) (sym (own_keys-sum (w (key_of (column_of x y) a.z.low i)) b j))
    (subst (λ (n : ℕ). total (λ u. total (λ v. w (key_of (column_of x y) a.z.low i) (key_of (column_of u v) b.z.low j)) b.y.low (width b.y)) b.x.low (width b.x) ≤ n)
    (total-product (f x) (g y) b.x.low (width b.x) b.y.low (width b.y))
    (total-le (λ u. total (λ v. w (key_of (column_of x y) a.z.low i) (key_of (column_of u v) b.z.low j)) b.y.low (width b.y)) (λ u. total (λ v. f x u * g y v) b.y.low (width b.y)) b.x.low (width b.x)
    (λ u l m. total-le (λ v. w (key_of (column_of x y) a.z.low i) (key_of (column_of u v) b.z.low j)) (λ v. f x u * g y v) b.y.low (width b.y)
    (λ v l' m'. h x y u v p q m m')))) in
    subst (λ (n : ℕ). n ≤ total fs a.x.low (width a.x) * total gs a.y.low (width a.y)) (sym (own_keys-sum (λ e. sum_by (w e) (own_keys b j)) a i))
    (subst (λ (n : ℕ). total (λ x. total (λ y. sum_by (w (key_of (column_of x y) a.z.low i)) (own_keys b j)) a.y.low (width a.y)) a.x.low (width a.x) ≤ n)
    (total-product fs gs a.x.low (width a.x) a.y.low (width a.y))
    (total-le (λ x. total (λ y. sum_by (w (key_of (column_of x y) a.z.low i)) (own_keys b j)) a.y.low (width a.y)) (λ x. total (λ y. fs x * gs y) a.y.low (width a.y)) a.x.low (width a.x)
    (λ x l m. total-le (λ y. sum_by (w (key_of (column_of x y) a.z.low i)) (own_keys b j)) (λ y. fs x * gs y) a.y.low (width a.y) (λ y l' m'. inner x y m m'))))

-- ---- visits

-- how many visits two spheres have, the keys of the first with those of the second
abbrev pub visits_of : List Block → ℕ → ℕ → ℕ
visits_of bs i j = sum_by (λ e. sum_by (λ d. mark (meets bs e d)) (own_keys (block_at bs j) j)) (own_keys (block_at bs i) i)

-- how many bins of a side two blocks share
unfoldable pub shared : ℕ → Block → Block → ℕ
shared bin a b = shared_on (cells_of bin a.across) (cells_of bin b.across) * shared_on (cells_of bin a.along) (cells_of bin b.along) * shared_on a.z b.z

-- whether the first of two spheres is before the other on the last axis, and their boxes are beside each other
abbrev pub ahead : Block → Block → ℕ → ℕ → Bool
ahead a b i j = before a.z b.z i j && beside a b

pub span-small : (a : Span) (x : ℕ) → IsSpan a → x < a.low + width a → x < CELLS
span-small a x h l = omega (arith, h.order, h.small)

pub block-small : (a b : Block) (i j : ℕ) → IsBlock a → IsBlock b → i < SPHERES → j < SPHERES → AreSmall a.z.low i a.z.high b.z.low j
block-small a b i j ga gb il jl = record {
  low = omega (arith, ga.z.order, ga.z.small);
  sphere = il;
  up = ga.z.small;
  low_second = omega (arith, gb.z.order, gb.z.small);
  sphere_second = jl;
}

-- two keys meet in one column only, where the one sphere is before the other
met-le : (bs : List Block) (i j x y u v : ℕ) → IsBlock (block_at bs i) → IsBlock (block_at bs j) → i < SPHERES → j < SPHERES → y < CELLS → v < CELLS →
    mark (meets bs (key_of (column_of x y) (block_at bs i).z.low i) (key_of (column_of u v) (block_at bs j).z.low j))
    ≤ mark (x == u) * (mark (y == v) * mark (ahead (block_at bs i) (block_at bs j) i j))
met-le bs i j x y u v gi gj il jl yl vl =
    elim (cases_Bool (meets bs (key_of (column_of x y) (block_at bs i).z.low i) (key_of (column_of u v) (block_at bs j).z.low j))) [
      | inl e ↦
          let parts = meets-parts bs (column_of x y) (block_at bs i).z.low i (column_of u v) (block_at bs j).z.low j (block-small (block_at bs i) (block_at bs j) i j gi gj il jl) e in
          let met : AreMet (column_of x y) (block_at bs i).z.low i (block_at bs i).z.high (column_of u v) (block_at bs j).z.low j = parts.0 in
          let same : (x ≡ u) × (y ≡ v) = column_of-same x y u v yl vl met.column in
          rw (e, eq-eqb x u same.0, eq-eqb y v same.1, before-met (block_at bs i).z (block_at bs j).z (column_of x y) i (column_of u v) j met, parts.2) (omega arith)
      | inr e ↦ rw e (omega arith)
    ]

-- how many cells two spans share, as a sum
common-cells : (a b : Span) → a.low ≤ a.high → b.low ≤ b.high → total (λ x. total (λ u. mark (x == u)) b.low (width b)) a.low (width a) ≡ shared_on a b
unfolding shared_on
common-cells a b p q = omega (arith, total-common a.low (width a) b.low (width b))

common-scaled : (a b : Span) (c : ℕ) → a.low ≤ a.high → b.low ≤ b.high → total (λ x. total (λ u. mark (x == u) * c) b.low (width b)) a.low (width a) ≡ shared_on a b * c
common-scaled a b c p q =
    total-same (λ x. total (λ u. mark (x == u) * c) b.low (width b)) (λ x. total (λ u. mark (x == u)) b.low (width b) * c) a.low (width a)
    (λ x l m. total-scale c (λ u. mark (x == u)) b.low (width b))
    ∙ total-scale c (λ x. total (λ u. mark (x == u)) b.low (width b)) a.low (width a)
    ∙ ap (λ (n : ℕ). n * c) (common-cells a b p q)

visits_of-le : (bs : List Block) (i j : ℕ) → IsBlock (block_at bs i) → IsBlock (block_at bs j) → i < SPHERES → j < SPHERES →
    visits_of bs i j ≤ shared_on (block_at bs i).x (block_at bs j).x * (shared_on (block_at bs i).y (block_at bs j).y * mark (ahead (block_at bs i) (block_at bs j) i j))
visits_of-le bs i j gi gj il jl =
    subst (λ (n : ℕ). visits_of bs i j ≤ n)
    (ap₂ (λ (p q : ℕ). p * q) (common-cells (block_at bs i).x (block_at bs j).x gi.x.order gj.x.order) (common-scaled (block_at bs i).y (block_at bs j).y (mark (ahead (block_at bs i) (block_at bs j) i j)) gi.y.order gj.y.order))
    (two_keys-le (λ e d. mark (meets bs e d)) (λ x u. mark (x == u)) (λ y v. mark (y == v) * mark (ahead (block_at bs i) (block_at bs j) i j)) (block_at bs i) (block_at bs j) i j
    (λ x y u v p q r t. met-le bs i j x y u v gi gj il jl (span-small (block_at bs i).y y gi.y q) (span-small (block_at bs j).y v gj.y t)))

-- a mark of two tests is no greater than that of the first
mark-and : (p q : Bool) → mark (p && q) ≤ mark p
mark-and true true = omega arith
mark-and true false = omega arith
mark-and false q = omega arith

-- thirds of numbers in order are no farther apart than the numbers
wide-few : (al ah bl bh cl ch dl dh : ℕ) → al ≤ ah → bl ≤ bh → al ≤ bh → bl ≤ ah → al / WIDE ≡ cl → ah / WIDE ≡ ch → bl / WIDE ≡ dl → bh / WIDE ≡ dh →
    min (ch + 1) (dh + 1) - max cl dl ≤ min (ah + 1) (bh + 1) - max al bl
wide-few al ah bl bh cl ch dl dh p q r t e f g h = omega arith

-- two intervals that meet share no more cells of a column's side than of a bin's
wide-le : (bin : ℕ) (a b : Span) → a.low ≤ a.high → b.low ≤ b.high → meet_on a b ≡ true → 0 < bin →
    shared_on (cells_of (bin * WIDE) a) (cells_of (bin * WIDE) b) ≤ shared_on (cells_of bin a) (cells_of bin b)
unfolding shared_on cells_of meet_on
wide-le bin a b p q m some =
    let parts = and_parts (not (nat_lt b.high a.low)) (not (nat_lt a.high b.low)) m in
    let first : a.low ≤ b.high = ltb-false b.high a.low (not-true (nat_lt b.high a.low) parts.0) in
    let second : b.low ≤ a.high = ltb-false a.high b.low (not-true (nat_lt a.high b.low) parts.1) in
    wide-few (a.low / bin) (a.high / bin) (b.low / bin) (b.high / bin) (a.low / (bin * WIDE)) (a.high / (bin * WIDE)) (b.low / (bin * WIDE)) (b.high / (bin * WIDE))
    (div-le a.low a.high bin some p) (div-le b.low b.high bin some q) (div-le a.low b.high bin some first) (div-le b.low a.high bin some second)
    (div-div-eq-div-mul a.low bin WIDE) (div-div-eq-div-mul a.high bin WIDE) (div-div-eq-div-mul b.low bin WIDE) (div-div-eq-div-mul b.high bin WIDE)

-- the same of the columns that two blocks share, where their boxes are beside each other
columns-le : (bin : ℕ) (a b : Block) (p : Bool) → IsWide bin a → IsWide bin b → 0 < bin →
    shared_on a.x b.x * (shared_on a.y b.y * mark (p && beside a b)) ≤ shared_on (cells_of bin a.across) (cells_of bin b.across) * (shared_on (cells_of bin a.along) (cells_of bin b.along) * mark p)
columns-le bin a b p wa wb some =
    elim (cases_Bool (beside a b)) [
      | inl t ↦
          let parts = and_parts (meet_on a.across b.across) (meet_on a.along b.along) (unfold beside in t) in
          let xs : shared_on a.x b.x ≤ shared_on (cells_of bin a.across) (cells_of bin b.across) = rw (wa.x, wb.x) (wide-le bin a.across b.across wa.across wb.across parts.0 some) in
          let ys : shared_on a.y b.y ≤ shared_on (cells_of bin a.along) (cells_of bin b.along) = rw (wa.y, wb.y) (wide-le bin a.along b.along wa.along wb.along parts.1 some) in
          mul-le (shared_on a.x b.x) (shared_on a.y b.y * mark (p && beside a b)) (shared_on (cells_of bin a.across) (cells_of bin b.across)) (shared_on (cells_of bin a.along) (cells_of bin b.along) * mark p) xs
          (mul-le (shared_on a.y b.y) (mark (p && beside a b)) (shared_on (cells_of bin a.along) (cells_of bin b.along)) (mark p) ys (mark-and p (beside a b)))
      | inr t ↦ rw (and_right p (beside a b) t) (omega arith)
    ]

spread : (x y p q z : ℕ) → p + q ≤ z → x * (y * p) + x * (y * q) ≤ x * y * z
spread x y p q z h =
    let most : x * y * (p + q) ≤ x * y * z = mul-le (x * y) (p + q) (x * y) z (omega arith) h in
    omega arith

-- two spheres have no more visits than they share bins
visits_of-both : (bin : ℕ) (bs : List Block) (i j : ℕ) → 0 < bin → IsBlock (block_at bs i) → IsBlock (block_at bs j) → IsWide bin (block_at bs i) → IsWide bin (block_at bs j) → i < SPHERES → j < SPHERES →
    visits_of bs i j + visits_of bs j i ≤ shared bin (block_at bs i) (block_at bs j)
unfolding shared
visits_of-both bin bs i j some gi gj wi wj il jl =
    let one : visits_of bs i j ≤ shared_on (cells_of bin (block_at bs i).across) (cells_of bin (block_at bs j).across) * (shared_on (cells_of bin (block_at bs i).along) (cells_of bin (block_at bs j).along) * mark (before (block_at bs i).z (block_at bs j).z i j)) =
    omega (arith, visits_of-le bs i j gi gj il jl, columns-le bin (block_at bs i) (block_at bs j) (before (block_at bs i).z (block_at bs j).z i j) wi wj some) in
    let two : visits_of bs j i ≤ shared_on (cells_of bin (block_at bs i).across) (cells_of bin (block_at bs j).across) * (shared_on (cells_of bin (block_at bs i).along) (cells_of bin (block_at bs j).along) * mark (before (block_at bs j).z (block_at bs i).z j i)) =
    rw (shared_on-turned (cells_of bin (block_at bs i).across) (cells_of bin (block_at bs j).across), shared_on-turned (cells_of bin (block_at bs i).along) (cells_of bin (block_at bs j).along))
    (omega (arith, visits_of-le bs j i gj gi jl il, columns-le bin (block_at bs j) (block_at bs i) (before (block_at bs j).z (block_at bs i).z j i) wj wi some)) in
    let all = spread (shared_on (cells_of bin (block_at bs i).across) (cells_of bin (block_at bs j).across)) (shared_on (cells_of bin (block_at bs i).along) (cells_of bin (block_at bs j).along))
    (mark (before (block_at bs i).z (block_at bs j).z i j)) (mark (before (block_at bs j).z (block_at bs i).z j i)) (shared_on (block_at bs i).z (block_at bs j).z)
    (before-both (block_at bs i).z (block_at bs j).z i j il jl gi.z.order gj.z.order) in
    omega (arith, one, two, all)

visits_of-itself : (bs : List Block) (i : ℕ) → IsBlock (block_at bs i) → i < SPHERES → visits_of bs i i ≡ 0
visits_of-itself bs i gi il =
    let none : mark (ahead (block_at bs i) (block_at bs i) i i) ≡ 0 =
    omega (arith, mark-and (before (block_at bs i).z (block_at bs i).z i i) (beside (block_at bs i) (block_at bs i)), before-itself (block_at bs i).z i) in
    let le : visits_of bs i i ≤ shared_on (block_at bs i).x (block_at bs i).x * (shared_on (block_at bs i).y (block_at bs i).y * 0) =
    subst (λ (n : ℕ). visits_of bs i i ≤ shared_on (block_at bs i).x (block_at bs i).x * (shared_on (block_at bs i).y (block_at bs i).y * n)) none (visits_of-le bs i i gi gi il il) in
    omega (arith, le)

-- ---- sums over all keys

-- a sum over two keys each is one over two spheres each
pub keys_of-pairs : (w : ℕ → ℕ → ℕ) (bs : List Block) →
    sum_by (λ e. sum_by (w e) (keys_of bs)) (keys_of bs)
    ≡ total (λ i. total (λ j. sum_by (λ e. sum_by (w e) (own_keys (block_at bs j) j)) (own_keys (block_at bs i) i)) 0 (length bs)) 0 (length bs)
unfolding keys_of
keys_of-pairs w bs =
    let own : ℕ → List ℕ = λ i. own_keys (block_at bs i) i in
    sum-same (λ e. sum_by (w e) (keys_of bs)) (λ e. total (λ j. sum_by (w e) (own_keys (block_at bs j) j)) 0 (length bs)) (keys_of bs) (λ e. sum-flat (w e) (λ i. own_keys (block_at bs i) i) 0 (length bs))
    ∙ sum-flat (λ e. total (λ j. sum_by (w e) (own_keys (block_at bs j) j)) 0 (length bs)) (λ i. own_keys (block_at bs i) i) 0 (length bs)
    ∙ total-same (λ i. sum_by (λ e. total (λ j. sum_by (w e) (own_keys (block_at bs j) j)) 0 (length bs)) (own_keys (block_at bs i) i)) (λ i. total (λ j. sum_by (λ e. sum_by (w e) (own_keys (block_at bs j) j)) (own_keys (block_at bs i) i)) 0 (length bs)) 0 (length bs)
    (λ i p q. sum-swap (λ e j. sum_by (w e) (own_keys (block_at bs j) j)) (own_keys (block_at bs i) i) 0 (length bs))

-- and the same in any order of the keys
pub moved-pairs : (w : ℕ → ℕ → ℕ) (xs ys : List ℕ) → IsPermutation xs ys → sum_by (λ e. sum_by (w e) ys) ys ≡ sum_by (λ e. sum_by (w e) xs) xs
moved-pairs w xs ys h =
    sum_by-IsPermutation (λ e. sum_by (w e) ys) xs ys h
    ∙ sum-same (λ e. sum_by (w e) ys) (λ e. sum_by (w e) xs) xs (λ e. sum_by-IsPermutation (w e) xs ys h)

-- how many bins of a side all pairs of blocks share
unfoldable pub all_shared : ℕ → List Block → ℕ
all_shared bin bs = total (λ b. total (λ a. shared bin (block_at bs a) (block_at bs b)) 0 b) 0 (length bs)

pub block_at-good : (bs : List Block) (i : ℕ) → All IsBlock bs → i < length bs → IsBlock (block_at bs i)
unfolding block_at
block_at-good bs i all l = all i no_block l

pub block_at-any : (bs : List Block) (i : ℕ) (d : Block) → i < length bs → block_at bs i ≡ get_or bs i d
unfolding block_at
block_at-any bs i d l = get_or_default bs i no_block d l

-- a walk makes no more visits than all pairs of blocks share bins
pub rows_visits-le : (bin : ℕ) (bs : List Block) (es : List ℕ) → 0 < bin → All IsBlock bs → AreWide bin bs → length bs ≤ SPHERES → IsPermutation (keys_of bs) es → rows_visits bs es ≤ all_shared bin bs
unfolding rows_visits row_visits all_shared
rows_visits-le bin bs es some all wide few h =
    let sums : sum_by (λ e. sum_by (λ d. mark (meets bs e d)) es) es ≡ total (λ b. total (λ a. visits_of bs a b + visits_of bs b a) 0 b + visits_of bs b b) 0 (length bs) =
    moved-pairs (λ e d. mark (meets bs e d)) (keys_of bs) es h
    ∙ keys_of-pairs (λ e d. mark (meets bs e d)) bs
    ∙ total-paired (visits_of bs) (length bs) in
    subst (λ (n : ℕ). n ≤ total (λ b. total (λ a. shared bin (block_at bs a) (block_at bs b)) 0 b) 0 (length bs)) (sym sums)
    (total-le (λ b. total (λ a. visits_of bs a b + visits_of bs b a) 0 b + visits_of bs b b) (λ b. total (λ a. shared bin (block_at bs a) (block_at bs b)) 0 b) 0 (length bs)
    (λ b p q.
    let good : IsBlock (block_at bs b) = block_at-good bs b all (omega arith) in
    let none : visits_of bs b b ≡ 0 = visits_of-itself bs b good (omega arith) in
    let rest : total (λ a. visits_of bs a b + visits_of bs b a) 0 b ≤ total (λ a. shared bin (block_at bs a) (block_at bs b)) 0 b =
    total-le (λ a. visits_of bs a b + visits_of bs b a) (λ a. shared bin (block_at bs a) (block_at bs b)) 0 b
    (λ a l m. visits_of-both bin bs a b some (block_at-good bs a all (omega arith)) good (wide a (omega arith)) (wide b (omega arith)) (omega arith) (omega arith)) in
    omega (arith, none, rest)))
