-- What a walk has found so far: nothing up to a key itself, nothing after its end, and each visit in between.
use Rattle.std.proofs.Common.{◌≡◌, ℕ, ◌+◌, ◌*◌, ◌-◌, ◌<◌, ◌≤◌, List, [], ◌∷◌, ◌++◌, length, map, take, drop, get_or, refl, sym, ap, ap₂, ◌∙◌, arith, subst, zero-add, inl, inr, true, false, Bool}
use Rattle.std.specs.Prelude.{◌&&◌, ◌==◌, not, nat_lt, All, if◌then◌else◌}
use Rattle.std.specs.List.{flat_map, range_with_len}
use Rattle.std.specs.List.Sorted.{IsNonDecreasing}
use Rattle.std.proofs.lemmas.Bool.{and_parts, le-ltb, lt-ltb, eq-eqb, and_left, and_right, and_from, not_from_false, ne_eqb, cases_order}
use Rattle.std.proofs.lemmas.List.{append-nil, append_assoc, length-append, take_more, take_all, take-append-drop, get_or-take, get_or-drop, get_or_default, length-take, length-drop}
use Rattle.std.proofs.lemmas.List.Concat.{flat_map-append}
use Rattle.std.proofs.lemmas.List.Folds.{length-flat_map-take}
use Rattle.std.proofs.lemmas.List.Elements.{All-tail, All-head}
use Rattle.dem_num.specs.declared.vector.Vec3.{Vec3}
use Rattle.dem_model.specs.SceneValue.{SceneValue}
use Rattle.dem_model.specs.Near.{near}
use Rattle.dem_model.specs.Pairs.{apart, sphere_count, pair_of}
use Rattle.dem_model.specs.declared.state.Pair.{Pair}
use Rattle.dem_bins.proofs.RoomFacts.{pair_if_near-short}
use Rattle.std.proofs.lemmas.List.FromFn.{map-range_with_len_more}
use Rattle.std.proofs.lemmas.List.Concat.{length-flat_map}
use Rattle.dem_bins.proofs.SumFacts.{range-more, total, total-le, total-const, sum-range}
use Rattle.dem_margin.specs.NearList.{pair_if_near}
use Rattle.dem_bins.specs.Blocks.{block_at, no_block, beside}
use Rattle.dem_bins.specs.Keys.{sphere_in, column_in}
use Rattle.dem_bins.specs.Walk.{end_of, first_column, pair_in, meets, visited, met, row_of, wall_found}
use Rattle.dem_bins.specs.declared.blocks.Block.{Block}

-- ---- a list that is mapped and joined, element by element

pub flat-more : {X Y : Type 0} (f : X → List Y) (xs : List X) (i : ℕ) (d : X) → i < length xs → flat_map f (take (i + 1) xs) ≡ flat_map f (take i xs) ++ f (get_or xs i d)
flat-more f xs i d l =
    ap (flat_map f) (take_more xs i d l)
    ∙ flat_map-append f (take i xs) (get_or xs i d ∷ [])
    ∙ ap (λ ys. flat_map f (take i xs) ++ ys) (append-nil (f (get_or xs i d)))

pub flat-whole : {X Y : Type 0} (f : X → List Y) (xs : List X) (i : ℕ) → length xs ≤ i → flat_map f (take i xs) ≡ flat_map f xs
flat-whole f xs i l = ap (flat_map f) (take_all i xs l)

-- one step of a loop that adds such pieces to a list
pub added-more : {X Y : Type 0} (f : X → List Y) (xs : List X) (i : ℕ) (d : X) (start so_far next : List Y) → i < length xs →
    so_far ≡ start ++ flat_map f (take i xs) → next ≡ so_far ++ f (get_or xs i d) → next ≡ start ++ flat_map f (take (i + 1) xs)
added-more f xs i d start so_far next l e n =
    n ∙ ap (λ ys. ys ++ f (get_or xs i d)) e ∙ append_assoc start (flat_map f (take i xs)) (f (get_or xs i d)) ∙ ap (λ ys. start ++ ys) (sym (flat-more f xs i d l))

-- room for the next piece, where there is room for all
pub added-room : {X Y : Type 0} (f : X → List Y) (xs : List X) (i : ℕ) (d : X) (start so_far : List Y) (most : ℕ) → i < length xs →
    so_far ≡ start ++ flat_map f (take i xs) → length start + length (flat_map f xs) + 1 < most → length so_far + length (f (get_or xs i d)) + 1 < most
added-room f xs i d start so_far most l e room =
    omega (arith, ap length e, length-append start (flat_map f (take i xs)), length-flat_map-take f xs i d l)

pub added-place : {X Y : Type 0} (f : X → List Y) (xs : List X) (i : ℕ) (d : X) (start so_far : List Y) (most : ℕ) → i < length xs →
    so_far ≡ start ++ flat_map f (take i xs) → length start + length (flat_map f xs) + 1 < most → length so_far + 1 < most
added-place f xs i d start so_far most l e room = omega (arith, added-room f xs i d start so_far most l e room)

-- ---- keys that don't meet

meets-early : (bs : List Block) (e d : ℕ) → d ≤ e → meets bs e d ≡ false
unfolding meets
meets-early bs e d h =
    and_left (nat_lt e d && nat_lt d (end_of bs e) && not (sphere_in e == sphere_in d)) (beside (block_at bs (sphere_in e)) (block_at bs (sphere_in d)))
    (and_left (nat_lt e d && nat_lt d (end_of bs e)) (not (sphere_in e == sphere_in d)) (and_left (nat_lt e d) (nat_lt d (end_of bs e)) (le-ltb e d h)))

meets-late : (bs : List Block) (e d : ℕ) → end_of bs e ≤ d → meets bs e d ≡ false
unfolding meets
meets-late bs e d h =
    and_left (nat_lt e d && nat_lt d (end_of bs e) && not (sphere_in e == sphere_in d)) (beside (block_at bs (sphere_in e)) (block_at bs (sphere_in d)))
    (and_left (nat_lt e d && nat_lt d (end_of bs e)) (not (sphere_in e == sphere_in d)) (and_right (nat_lt e d) (nat_lt d (end_of bs e)) (le-ltb d (end_of bs e) h)))

-- two keys of one sphere don't meet
pub meets-own : (bs : List Block) (e d : ℕ) → sphere_in e ≡ sphere_in d → meets bs e d ≡ false
unfolding meets
meets-own bs e d h =
    and_left (nat_lt e d && nat_lt d (end_of bs e) && not (sphere_in e == sphere_in d)) (beside (block_at bs (sphere_in e)) (block_at bs (sphere_in d)))
    (and_right (nat_lt e d && nat_lt d (end_of bs e)) (not (sphere_in e == sphere_in d)) (ap not (eq-eqb (sphere_in e) (sphere_in d) h)))

-- nor do those of two spheres whose boxes aren't beside each other
pub meets-apart : (bs : List Block) (e d : ℕ) → beside (block_at bs (sphere_in e)) (block_at bs (sphere_in d)) ≡ false → meets bs e d ≡ false
unfolding meets
meets-apart bs e d h =
    and_right (nat_lt e d && nat_lt d (end_of bs e) && not (sphere_in e == sphere_in d)) (beside (block_at bs (sphere_in e)) (block_at bs (sphere_in d))) h

-- keys that meet are of spheres whose boxes are beside each other
pub meets-beside : (bs : List Block) (e d : ℕ) → meets bs e d ≡ true → beside (block_at bs (sphere_in e)) (block_at bs (sphere_in d)) ≡ true
unfolding meets
meets-beside bs e d h =
    (and_parts (nat_lt e d && nat_lt d (end_of bs e) && not (sphere_in e == sphere_in d)) (beside (block_at bs (sphere_in e)) (block_at bs (sphere_in d))) h).1

-- two keys of two spheres do, in order and before the end, where the boxes are beside each other
pub meets-now : (bs : List Block) (e d : ℕ) → e ≤ d → d < end_of bs e → (sphere_in e ≡ sphere_in d → ⊥) → beside (block_at bs (sphere_in e)) (block_at bs (sphere_in d)) ≡ true → meets bs e d ≡ true
unfolding meets
meets-now bs e d order below other near =
    let less : e < d = elim (cases_order e d) [
      | inl same ↦ absurd (other (ap sphere_in same))
      | inr rest ↦ elim rest [ inl lt ↦ lt | inr gt ↦ absurd (omega arith) ]
    ] in
    and_from (nat_lt e d && nat_lt d (end_of bs e) && not (sphere_in e == sphere_in d)) (beside (block_at bs (sphere_in e)) (block_at bs (sphere_in d)))
    (and_from (nat_lt e d && nat_lt d (end_of bs e)) (not (sphere_in e == sphere_in d))
    (and_from (nat_lt e d) (nat_lt d (end_of bs e)) (lt-ltb e d less) (lt-ltb d (end_of bs e) below))
    (not_from_false (sphere_in e == sphere_in d) (ne_eqb (sphere_in e) (sphere_in d) other)))
    near

pub met-none : (s : SceneValue) (drift : ℕ) (cs : List Vec3) (bs : List Block) (e d : ℕ) → meets bs e d ≡ false → met s drift cs bs e d ≡ []
unfolding met
met-none s drift cs bs e d h = rw h refl

pub met-visited : (s : SceneValue) (drift : ℕ) (cs : List Vec3) (bs : List Block) (e d : ℕ) → meets bs e d ≡ true → met s drift cs bs e d ≡ visited s drift cs bs e d
unfolding met
met-visited s drift cs bs e d h = rw h refl

-- a key finds nothing with keys that it doesn't meet
none-met : (s : SceneValue) (drift : ℕ) (cs : List Vec3) (bs : List Block) (e : ℕ) (ds : List ℕ) → All (λ d. meets bs e d ≡ false) ds → flat_map (met s drift cs bs e) ds ≡ []
none-met s drift cs bs e [] h = refl
none-met s drift cs bs e (d ∷ ds) h =
    rw (met-none s drift cs bs e d (All-head (λ x. meets bs e x ≡ false) d ds h)) (none-met s drift cs bs e ds (All-tail (λ x. meets bs e x ≡ false) d ds h))

-- nor with those up to itself
pub row-begins : (s : SceneValue) (drift : ℕ) (cs : List Vec3) (bs : List Block) (es : List ℕ) (i : ℕ) → IsNonDecreasing es → i < length es →
    flat_map (met s drift cs bs (get_or es i 0)) (take (i + 1) es) ≡ []
row-begins s drift cs bs es i order l =
    none-met s drift cs bs (get_or es i 0) (take (i + 1) es)
    (λ k d lt.
    let place : k < i + 1 = omega (arith, length-take (i + 1) es) in
    rw (get_or-take (i + 1) es k d place)
    (meets-early bs (get_or es i 0) (get_or es k d) (subst (λ (n : ℕ). get_or es k d ≤ n) (get_or_default es i d 0 l) (order k i d (omega arith) l))))

-- nor with those from its end on
pub row-ends : (s : SceneValue) (drift : ℕ) (cs : List Vec3) (bs : List Block) (es : List ℕ) (e j : ℕ) → IsNonDecreasing es → j < length es → end_of bs e ≤ get_or es j 0 →
    flat_map (met s drift cs bs e) (take j es) ≡ row_of s drift cs bs es e
unfolding row_of
row-ends s drift cs bs es e j order l end =
    let rest : flat_map (met s drift cs bs e) (drop j es) ≡ [] =
    none-met s drift cs bs e (drop j es)
    (λ k d lt.
    let place : j + k < length es = omega (arith, length-drop j es) in
    rw (get_or-drop j es k d)
    (meets-late bs e (get_or es (j + k) d)
    (let up : get_or es j d ≤ get_or es (j + k) d = order j (j + k) d (omega arith) place in omega (arith, end, up, get_or_default es j d 0 l)))) in
    sym (append-nil (flat_map (met s drift cs bs e) (take j es)))
    ∙ ap (λ ys. flat_map (met s drift cs bs e) (take j es) ++ ys) (sym rest)
    ∙ sym (flat_map-append (met s drift cs bs e) (take j es) (drop j es))
    ∙ ap (flat_map (met s drift cs bs e)) (take-append-drop j es)

pub row-whole : (s : SceneValue) (drift : ℕ) (cs : List Vec3) (bs : List Block) (es : List ℕ) (e j : ℕ) → length es ≤ j →
    flat_map (met s drift cs bs e) (take j es) ≡ row_of s drift cs bs es e
unfolding row_of
row-whole s drift cs bs es e j l = flat-whole (met s drift cs bs e) es j l

-- ---- loops over ranges of numbers

pub flat-step : {Y : Type 0} (f : ℕ → List Y) (k j : ℕ) (start so_far next : List Y) → k ≤ j →
    so_far ≡ start ++ flat_map f (range_with_len k (j - k)) → next ≡ so_far ++ f j → next ≡ start ++ flat_map f (range_with_len k (j + 1 - k))
flat-step f k j start so_far next low e n =
    let last : k + (j - k) ≡ j = omega arith in
    let count : (j - k) + 1 ≡ j + 1 - k = omega arith in
    let more : flat_map f (range_with_len k (j - k)) ++ f j ≡ flat_map f (range_with_len k (j + 1 - k)) =
    ap (λ ys. flat_map f (range_with_len k (j - k)) ++ ys) (ap f (sym last) ∙ sym (append-nil (f (k + (j - k)))))
    ∙ sym (flat_map-append f (range_with_len k (j - k)) ((k + (j - k)) ∷ []))
    ∙ ap (flat_map f) (sym (range-more k (j - k)))
    ∙ ap (λ m. flat_map f (range_with_len k m)) count in
    n ∙ ap (λ ys. ys ++ f j) e ∙ append_assoc start (flat_map f (range_with_len k (j - k))) (f j) ∙ ap (λ ys. start ++ ys) more

pub map-step : {Y : Type 0} (f : ℕ → Y) (k j : ℕ) (start so_far next : List Y) → k ≤ j →
    so_far ≡ start ++ map f (range_with_len k (j - k)) → next ≡ so_far ++ f j ∷ [] → next ≡ start ++ map f (range_with_len k (j + 1 - k))
map-step f k j start so_far next low e n =
    let count : (j - k) + 1 ≡ j + 1 - k = omega arith in
    n ∙ ap (λ ys. ys ++ f j ∷ []) e ∙ append_assoc start (map f (range_with_len k (j - k))) (f j ∷ [])
    ∙ ap (λ ys. start ++ ys) (sym (map-range_with_len_more f k (j - k) j (omega arith)) ∙ ap (λ m. map f (range_with_len k m)) count)

-- what loops have added at their start and at their end
pub range-none : {Y : Type 0} (F : List ℕ → List Y) (k : ℕ) (start : List Y) → F [] ≡ [] → start ≡ start ++ F (range_with_len k (k - k))
range-none F k start none = let zero' : k - k ≡ 0 = omega arith in rw (zero', none) (sym (append-nil start))

pub range-end : {Y : Type 0} (F : List ℕ → List Y) (k j n : ℕ) (start so_far : List Y) → j - k ≡ n → so_far ≡ start ++ F (range_with_len k (j - k)) → so_far ≡ start ++ F (range_with_len k n)
range-end F k j n start so_far e h = h ∙ ap (λ m. start ++ F (range_with_len k m)) e

-- ---- a block that is read, and a visit

pub block_at-read : (bs : List Block) (i j : ℕ) (d : Block) → i ≡ j → j < length bs → get_or bs i d ≡ block_at bs j
unfolding block_at
block_at-read bs i j d e l = ap (λ n. get_or bs n d) e ∙ get_or_default bs j d no_block l

-- two keys meet where their spheres were read, are two, and have boxes beside each other
pub meets-seen : (bs : List Block) (e d a b : ℕ) (x y : Block) → e ≤ d → d < end_of bs e → a ≡ sphere_in e → b ≡ sphere_in d → (a ≡ b → ⊥) →
    get_or bs a x ≡ block_at bs (sphere_in e) → get_or bs b y ≡ block_at bs (sphere_in d) → beside (get_or bs a x) (get_or bs b y) ≡ true → meets bs e d ≡ true
meets-seen bs e d a b x y order below ae bd other ax by near =
    meets-now bs e d order below (λ h. other (ae ∙ h ∙ sym bd)) (sym (ap₂ (λ (p q : Block). beside p q) ax by) ∙ near)

-- in the first column that both spheres meet their pair is added, if it is apart and near
pub visit-first : (s : SceneValue) (drift : ℕ) (cs : List Vec3) (bs : List Block) (e d : ℕ) (p : Pair) → meets bs e d ≡ true → p ≡ pair_in e d →
    first_column (block_at bs (sphere_in e)) (block_at bs (sphere_in d)) ≡ column_in e → pair_if_near s drift cs p ≡ met s drift cs bs e d
unfolding visited
visit-first s drift cs bs e d p meet same first =
    sym (met-visited s drift cs bs e d meet ∙ rw (eq-eqb (first_column (block_at bs (sphere_in e)) (block_at bs (sphere_in d))) (column_in e) first) (ap (pair_if_near s drift cs) (sym same)))

-- the same where it is known whether the pair is near
pub visit-near : (s : SceneValue) (drift : ℕ) (cs : List Vec3) (bs : List Block) (e d : ℕ) (p : Pair) (n : Bool) → meets bs e d ≡ true → p ≡ pair_in e d →
    first_column (block_at bs (sphere_in e)) (block_at bs (sphere_in d)) ≡ column_in e → near s drift cs (pair_in e d) ≡ n → (if apart s p && n then p ∷ [] else []) ≡ met s drift cs bs e d
visit-near s drift cs bs e d p n meet same first seen =
    ap (λ (t : Bool). if apart s p && t then p ∷ [] else []) (sym seen ∙ ap (near s drift cs) (sym same)) ∙ visit-first s drift cs bs e d p meet same first

-- and nothing elsewhere
pub visit-later : (s : SceneValue) (drift : ℕ) (cs : List Vec3) (bs : List Block) (e d : ℕ) → meets bs e d ≡ true →
    (first_column (block_at bs (sphere_in e)) (block_at bs (sphere_in d)) ≡ column_in e → ⊥) → met s drift cs bs e d ≡ []
unfolding visited
visit-later s drift cs bs e d meet other =
    met-visited s drift cs bs e d meet ∙ rw (ne_eqb (first_column (block_at bs (sphere_in e)) (block_at bs (sphere_in d))) (column_in e) other) refl

-- the same from nothing
pub flat-next : {Y : Type 0} (f : ℕ → List Y) (j : ℕ) (so_far next : List Y) → so_far ≡ flat_map f (range_with_len 0 j) → next ≡ so_far ++ f j → next ≡ flat_map f (range_with_len 0 (j + 1))
flat-next f j so_far next e n =
    let more : flat_map f (range_with_len 0 j) ++ f j ≡ flat_map f (range_with_len 0 (j + 1)) =
    ap (λ ys. flat_map f (range_with_len 0 j) ++ ys) (ap f (sym (zero-add j)) ∙ sym (append-nil (f (0 + j))))
    ∙ sym (flat_map-append f (range_with_len 0 j) ((0 + j) ∷ []))
    ∙ ap (flat_map f) (sym (range-more 0 j)) in
    n ∙ ap (λ ys. ys ++ f j) e ∙ more

pub map-next : {Y : Type 0} (f : ℕ → Y) (j : ℕ) (so_far next : List Y) → so_far ≡ map f (range_with_len 0 j) → next ≡ so_far ++ f j ∷ [] → next ≡ map f (range_with_len 0 (j + 1))
map-next f j so_far next e n = n ∙ ap (λ ys. ys ++ f j ∷ []) e ∙ sym (map-range_with_len_more f 0 j j (zero-add j))

-- the same after what was there
pub flat-after : {Y : Type 0} (f : ℕ → List Y) (j : ℕ) (start so_far next : List Y) → so_far ≡ start ++ flat_map f (range_with_len 0 j) → next ≡ so_far ++ f j → next ≡ start ++ flat_map f (range_with_len 0 (j + 1))
flat-after f j start so_far next e n =
    n ∙ ap (λ ys. ys ++ f j) e ∙ append_assoc start (flat_map f (range_with_len 0 j)) (f j)
    ∙ ap (λ ys. start ++ ys) (flat-next f j (flat_map f (range_with_len 0 j)) (flat_map f (range_with_len 0 j) ++ f j) refl refl)

-- pieces of at most so many elements
pieces-short : {Y : Type 0} (f : ℕ → List Y) (k n most : ℕ) → ((i : ℕ) → i < k + n → length (f i) ≤ most) → length (flat_map f (range_with_len k n)) ≤ n * most
pieces-short f k n most h =
    let sum : length (flat_map f (range_with_len k n)) ≡ total (λ i. length (f i)) k n = length-flat_map f (range_with_len k n) ∙ sum-range (λ i. length (f i)) k n in
    omega (arith, sum, total-le (λ i. length (f i)) (λ i. most) k n (λ i l m. h i m), total-const most k n)

pub flat-short : {Y : Type 0} (f : ℕ → List Y) (j : ℕ) (start so_far : List Y) (most : ℕ) → ((i : ℕ) → i < j → length (f i) ≤ most) → so_far ≡ start ++ flat_map f (range_with_len 0 j) → length so_far ≤ length start + j * most
flat-short f j start so_far most h e =
    omega (arith, ap length e, length-append start (flat_map f (range_with_len 0 j)), pieces-short f 0 j most (λ i l. h i (omega arith)))

pub flat-short-from : {Y : Type 0} (f : ℕ → List Y) (k n : ℕ) (start so_far : List Y) (most : ℕ) → ((i : ℕ) → i < k + n → length (f i) ≤ most) → so_far ≡ start ++ flat_map f (range_with_len k n) → length so_far ≤ length start + n * most
flat-short-from f k n start so_far most h e =
    omega (arith, ap length e, length-append start (flat_map f (range_with_len k n)), pieces-short f k n most h)

-- a wall is near each sphere once at most
pub wall_found-short : (s : SceneValue) (drift : ℕ) (cs : List Vec3) (b : ℕ) → length (wall_found s drift cs b) ≤ sphere_count s
unfolding wall_found
wall_found-short s drift cs b =
    omega (arith, pieces-short (λ a. pair_if_near s drift cs (pair_of a b)) 0 (sphere_count s) 1 (λ i l. pair_if_near-short s drift cs (pair_of i b)))
