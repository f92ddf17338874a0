-- What holds of each element, and of each two, in lists made over ranges.
use Rattle.std.proofs.Common.{ℕ, zero, suc, ◌-◌, ◌<◌, ◌≤◌, List, [], ◌∷◌, ◌++◌, map, take, length, length-append, get_or, refl, sym, ⊎_elim, subst, arith}
use Rattle.std.specs.Prelude.{All, AllPairs}
use Rattle.std.specs.List.{flat_map, range_with_len}
use Rattle.std.proofs.lemmas.Bool.{cases_lt}
use Rattle.std.proofs.lemmas.List.{get_or_append_left, get_or-append_right, get_or-map, get_or-take, length-map, length-take}
use Rattle.std.proofs.lemmas.List.Elements.{All-nil, All-append}
use Rattle.std.proofs.lemmas.List.FromFn.{get_or-map-range_with_len, length-map-range_with_len}
use Rattle.dem_pack.proofs.RangeFacts.{flat_map-more}

-- each element of a list made over a range
pub All-range : {X : Type 0} (P : X → Type 0) (f : ℕ → X) (n : ℕ) → ((j : ℕ) → j < n → P (f j)) → All P (map f (range_with_len 0 n))
All-range P f n each = λ k d lt.
    let below : k < n = omega (arith, length-map-range_with_len f 0 n, lt) in
    subst P (sym (get_or-map-range_with_len f 0 n k k d below (omega arith))) (each k below)

-- each two
pub AllPairs-range : {X : Type 0} (R : X → X → Type 0) (f : ℕ → X) (n : ℕ) → ((i j : ℕ) → i < j → j < n → R (f i) (f j)) → AllPairs R (map f (range_with_len 0 n))
AllPairs-range R f n each = λ i j d before lt.
    let below : j < n = omega (arith, length-map-range_with_len f 0 n, lt) in
    subst (λ x. R x (get_or (map f (range_with_len 0 n)) j d)) (sym (get_or-map-range_with_len f 0 n i i d (omega arith) (omega arith)))
    (subst (λ y. R (f i) y) (sym (get_or-map-range_with_len f 0 n j j d below (omega arith))) (each i j before below))

-- each element of lists in a row
pub All-rows : {X : Type 0} (P : X → Type 0) (f : ℕ → List X) (n : ℕ) → ((k : ℕ) → k < n → All P (f k)) → All P (flat_map f (range_with_len 0 n))
All-rows P f zero each = All-nil P
All-rows P f (suc n) each =
    subst (λ xs. All P xs) (sym (flat_map-more f n)) (All-append P (flat_map f (range_with_len 0 n)) (f n) (All-rows P f n (λ k lt. each k (omega arith))) (each n (omega arith)))

-- each two of two lists
pub AllPairs-append : {X : Type 0} (R : X → X → Type 0) (xs ys : List X) → AllPairs R xs → AllPairs R ys → All (λ x. All (λ y. R x y) ys) xs → AllPairs R (xs ++ ys)
AllPairs-append R xs ys first second across = λ i j d before lt.
    let n = length xs in
    let size = length-append xs ys in
    ⊎_elim
    (λ (low : j < n).
    subst (λ x. R x (get_or (xs ++ ys) j d)) (sym (get_or_append_left xs ys d i (omega arith)))
    (subst (λ y. R (get_or xs i d) y) (sym (get_or_append_left xs ys d j low)) (first i j d before low)))
    (λ (high : n ≤ j).
    let right = get_or-append_right xs ys n j d refl high in
    let within : j - n < length ys = omega (arith, size, lt, high) in
    ⊎_elim
    (λ (left : i < n).
    subst (λ x. R x (get_or (xs ++ ys) j d)) (sym (get_or_append_left xs ys d i left))
    (subst (λ y. R (get_or xs i d) y) (sym right) (across i d left (j - n) d within)))
    (λ (late : n ≤ i).
    subst (λ x. R x (get_or (xs ++ ys) j d)) (sym (get_or-append_right xs ys n i d refl late))
    (subst (λ y. R (get_or ys (i - n) d) y) (sym right) (second (i - n) (j - n) d (omega arith) within)))
    (cases_lt i n))
    (cases_lt j n)

-- each two of lists in a row
pub AllPairs-rows : {X : Type 0} (R : X → X → Type 0) (f : ℕ → List X) (n : ℕ) → ((k : ℕ) → k < n → AllPairs R (f k))
    → ((k m : ℕ) → k < m → m < n → All (λ x. All (λ y. R x y) (f m)) (f k)) → AllPairs R (flat_map f (range_with_len 0 n))
AllPairs-rows R f zero own across = λ i j d before lt. absurd (omega arith)
AllPairs-rows R f (suc n) own across =
    subst (λ xs. AllPairs R xs) (sym (flat_map-more f n))
    (AllPairs-append R (flat_map f (range_with_len 0 n)) (f n)
    (AllPairs-rows R f n (λ k lt. own k (omega arith)) (λ k m before lt. across k m before (omega arith)))
    (own n (omega arith))
    (All-rows (λ x. All (λ y. R x y) (f n)) f n (λ k lt. across k n lt (omega arith))))

-- each two of the first
pub AllPairs-take : {X : Type 0} (R : X → X → Type 0) (n : ℕ) (xs : List X) → AllPairs R xs → AllPairs R (take n xs)
AllPairs-take R n xs each = λ i j d before lt.
    let size = length-take n xs in
    let low : j < n = omega (arith, size, lt) in
    let within : j < length xs = omega (arith, size, lt) in
    subst (λ x. R x (get_or (take n xs) j d)) (sym (get_or-take n xs i d (omega arith)))
    (subst (λ y. R (get_or xs i d) y) (sym (get_or-take n xs j d low)) (each i j d before within))

-- each two, changed one by one
pub AllPairs-map : {X Y : Type 0} (R : Y → Y → Type 0) (f : X → Y) (xs : List X) → AllPairs (λ x y. R (f x) (f y)) xs → AllPairs R (map f xs)
AllPairs-map R f [] each = λ i j d before lt. absurd (omega arith)
AllPairs-map R f (x ∷ xs) each = λ i j d before lt.
    let all = x ∷ xs in
    let within : j < length all = omega (arith, length-map all f, lt) in
    subst (λ y. R y (get_or (map f all) j d)) (sym (get_or-map f all i x d (omega arith)))
    (subst (λ z. R (f (get_or all i x)) z) (sym (get_or-map f all j x d within)) (each i j x before within))
