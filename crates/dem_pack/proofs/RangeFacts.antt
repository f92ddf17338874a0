-- Lists made over ranges of numbers: joined, filled row by row, and two by two.
use Rattle.std.proofs.Common.{◌≡◌, ℕ, zero, suc, ◌+◌, ◌-◌, ◌*◌, ◌/◌, ◌%◌, ◌<◌, ◌≤◌, List, [], ◌∷◌, ◌++◌, map, length, length-append, refl, sym, ap, ◌∙◌, ⊎_elim, arith}
use Rattle.std.specs.List.{flat_map, range_with_len}
use Rattle.std.proofs.lemmas.Bool.{cases_lt}
use Rattle.std.proofs.lemmas.Nat.{div-mul-add, mod-mul-add}
use Rattle.std.proofs.lemmas.List.{get_or_append_left, get_or-append_right}
use Rattle.std.proofs.lemmas.List.Concat.{flat_map-append}
use Rattle.std.proofs.lemmas.List.FromFn.{fill_by_all, length-map-range_with_len, get_or-map-range_with_len, map-range_with_len_more}

-- two lists are made alike
pub map-same : {X : Type 0} (f g : ℕ → X) (n : ℕ) → ((i : ℕ) → i < n → f i ≡ g i) → map f (range_with_len 0 n) ≡ map g (range_with_len 0 n)
map-same f g n same =
    fill_by_all g (map f (range_with_len 0 n)) n (f 0) (length-map-range_with_len f 0 n)
    (λ k lt. get_or-map-range_with_len f 0 n k k (f 0) lt (omega arith) ∙ same k lt)

-- one list behind another
pub map-join : {X : Type 0} (f g h : ℕ → X) (a b : ℕ) → ((i : ℕ) → i < a → f i ≡ h i) → ((i : ℕ) → i < b → g i ≡ h (a + i))
    → map f (range_with_len 0 a) ++ map g (range_with_len 0 b) ≡ map h (range_with_len 0 (a + b))
map-join {X} f g h a b first second =
    let xs = map f (range_with_len 0 a) in
    let ys = map g (range_with_len 0 b) in
    let d = f 0 in
    let size : length (xs ++ ys) ≡ a + b = omega (arith, length-append xs ys, length-map-range_with_len f 0 a, length-map-range_with_len g 0 b) in
    fill_by_all h (xs ++ ys) (a + b) d size
    (λ k lt. ⊎_elim
    (λ (low : k < a). get_or_append_left xs ys d k (omega (arith, length-map-range_with_len f 0 a)) ∙ get_or-map-range_with_len f 0 a k k d low (omega arith) ∙ first k low)
    (λ (high : a ≤ k).
    let back : a + (k - a) ≡ k = omega arith in
    get_or-append_right xs ys a k d (length-map-range_with_len f 0 a) high
    ∙ get_or-map-range_with_len g 0 b (k - a) (k - a) d (omega arith) (omega arith) ∙ second (k - a) (omega arith) ∙ ap h back)
    (cases_lt k a))

-- a range with one number more
pub range-more : (n : ℕ) → range_with_len 0 (suc n) ≡ range_with_len 0 n ++ n ∷ []
range-more n =
    let one : n + 1 ≡ suc n = omega arith in
    ap (range_with_len 0) (sym one) ∙ sym (map-id (range_with_len 0 (n + 1))) ∙ map-range_with_len_more (λ (i : ℕ). i) 0 n n (omega arith) ∙ ap (λ l. l ++ n ∷ []) (map-id (range_with_len 0 n))
  where
    map-id : (xs : List ℕ) → map (λ (i : ℕ). i) xs ≡ xs
    map-id [] = refl
    map-id (x ∷ xs) = ap (λ l. x ∷ l) (map-id xs)

append-none : {X : Type 0} (xs : List X) → xs ++ [] ≡ xs
append-none [] = refl
append-none (x ∷ xs) = ap (λ l. x ∷ l) (append-none xs)

-- lists in a row, one list more
pub flat_map-more : {X : Type 0} (f : ℕ → List X) (n : ℕ) → flat_map f (range_with_len 0 (suc n)) ≡ flat_map f (range_with_len 0 n) ++ f n
flat_map-more f n = ap (flat_map f) (range-more n) ∙ flat_map-append f (range_with_len 0 n) (n ∷ []) ∙ ap (λ l. flat_map f (range_with_len 0 n) ++ l) (append-none (f n))

-- rows of so many, one after the other
pub map-rows : {X : Type 0} (h : ℕ → ℕ → X) (n : ℕ) → 0 < n → (m : ℕ)
    → flat_map (λ j. map (h j) (range_with_len 0 n)) (range_with_len 0 m) ≡ map (λ i. h (i / n) (i % n)) (range_with_len 0 (m * n))
map-rows h n some zero =
    let none : 0 * n ≡ 0 = omega arith in
    sym (ap (λ s. map (λ i. h (i / n) (i % n)) (range_with_len 0 s)) none)
map-rows h n some (suc m) =
    let f = λ (j : ℕ). map (h j) (range_with_len 0 n) in
    let whole = λ (i : ℕ). h (i / n) (i % n) in
    let size : m * n + n ≡ suc m * n = grind arith in
    flat_map-more f m ∙ ap (λ l. l ++ f m) (map-rows h n some m)
    ∙ map-join whole (h m) whole (m * n) n (λ i lt. refl)
    (λ i lt. ap (λ j. h j i) (sym (div-mul-add m n i lt)) ∙ ap (h ((m * n + i) / n)) (sym (mod-mul-add m n i lt)))
    ∙ ap (λ s. map whole (range_with_len 0 s)) size

-- lists in a row, taken two by two
pub flat_map-twos : {X : Type 0} (f : ℕ → List X) (p : ℕ) → flat_map f (range_with_len 0 (2 * p)) ≡ flat_map (λ k. f (2 * k) ++ f (2 * k + 1)) (range_with_len 0 p)
flat_map-twos f zero = refl
flat_map-twos f (suc p) =
    let two = λ (k : ℕ). f (2 * k) ++ f (2 * k + 1) in
    let size : 2 * suc p ≡ suc (suc (2 * p)) = omega arith in
    let next : suc (2 * p) ≡ 2 * p + 1 = omega arith in
    let start = flat_map f (range_with_len 0 (2 * p)) in
    ap (λ s. flat_map f (range_with_len 0 s)) size ∙ flat_map-more f (suc (2 * p)) ∙ ap (λ l. l ++ f (suc (2 * p))) (flat_map-more f (2 * p))
    ∙ append-later start (f (2 * p)) (f (suc (2 * p))) ∙ ap (λ s. start ++ (f (2 * p) ++ f s)) next ∙ ap (λ l. l ++ two p) (flat_map-twos f p) ∙ sym (flat_map-more two p)
  where
    append-later : {X : Type 0} (a b c : List X) → (a ++ b) ++ c ≡ a ++ (b ++ c)
    append-later [] b c = refl
    append-later (x ∷ a) b c = ap (λ l. x ∷ l) (append-later a b c)

-- no list has an element
pub flat_map-none : {X : Type 0} (f : ℕ → List X) → ((k : ℕ) → f k ≡ []) → (ks : List ℕ) → flat_map f ks ≡ []
flat_map-none f none [] = refl
flat_map-none f none (k ∷ ks) = ap (λ l. l ++ flat_map f ks) (none k) ∙ flat_map-none f none ks
