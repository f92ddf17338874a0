-- Sums over ranges of numbers: equal and greater terms, sums of sums in either order, how many numbers two ranges share.
use Rattle.std.proofs.Common.{◌≡◌, ℕ, zero, suc, ◌+◌, ◌*◌, ◌-◌, ◌<◌, ◌≤◌, List, [], ◌∷◌, ◌++◌, map, refl, sym, ap, ap₂, ◌∙◌, arith, add-one, zero-add, subst, Bool}
use Rattle.std.specs.Prelude.{if◌then◌else◌, ◌==◌, min, max}
use Rattle.std.specs.List.{flat_map, range_with_len, sum_by}
use Rattle.std.proofs.lemmas.Bool.Decides.{nat_tests}
use Rattle.std.proofs.lemmas.List.{map-id, append-nil}
use Rattle.std.proofs.lemmas.List.Concat.{flat_map-append}
use Rattle.std.proofs.lemmas.List.FromFn.{map-range_with_len_more, sum_by-map-range_with_len_more}
use Rattle.std.proofs.lemmas.List.Sums.{sum_by-cons, sum_by-append, sum_by_push}

-- 1 where a test passes, else 0
abbrev pub mark : Bool → ℕ
mark b = if b then 1 else 0

-- the sum of a function over n numbers from k on
unfoldable pub total : (ℕ → ℕ) → ℕ → ℕ → ℕ
total f k zero = 0
total f k (suc n) = total f k n + f (k + n)

pub total-push : (f : ℕ → ℕ) (n : ℕ) → total f 0 (suc n) ≡ total f 0 n + f n
unfolding total
total-push f n = rw (zero-add n) refl

pub total-same : (f g : ℕ → ℕ) (k n : ℕ) → ((i : ℕ) → k ≤ i → i < k + n → f i ≡ g i) → total f k n ≡ total g k n
unfolding total
total-same f g k zero h = refl
total-same f g k (suc n) h = ap₂ (λ (a b : ℕ). a + b) (total-same f g k n (λ i l m. h i l (omega arith))) (h (k + n) (omega arith) (omega arith))

pub total-le : (f g : ℕ → ℕ) (k n : ℕ) → ((i : ℕ) → k ≤ i → i < k + n → f i ≤ g i) → total f k n ≤ total g k n
unfolding total
total-le f g k zero h = omega arith
total-le f g k (suc n) h =
    let before : total f k n ≤ total g k n = total-le f g k n (λ i l m. h i l (omega arith)) in
    let last : f (k + n) ≤ g (k + n) = h (k + n) (omega arith) (omega arith) in
    omega arith

pub total-plus : (f g : ℕ → ℕ) (k n : ℕ) → total (λ i. f i + g i) k n ≡ total f k n + total g k n
unfolding total
total-plus f g k zero = refl
total-plus f g k (suc n) = omega (arith, total-plus f g k n)

pub total-zero : (k n : ℕ) → total (λ i. 0) k n ≡ 0
unfolding total
total-zero k zero = refl
total-zero k (suc n) = omega (arith, total-zero k n)

pub total-const : (c k n : ℕ) → total (λ i. c) k n ≡ n * c
unfolding total
total-const c k zero = omega arith
total-const c k (suc n) = omega (arith, total-const c k n)

-- a factor that stays
pub total-scale : (c : ℕ) (f : ℕ → ℕ) (k n : ℕ) → total (λ i. f i * c) k n ≡ total f k n * c
unfolding total
total-scale c f k zero = omega arith
total-scale c f k (suc n) = omega (arith, total-scale c f k n)

pub total-scaled : (c : ℕ) (f : ℕ → ℕ) (k n : ℕ) → total (λ i. c * f i) k n ≡ c * total f k n
unfolding total
total-scaled c f k zero = omega arith
total-scaled c f k (suc n) = omega (arith, total-scaled c f k n)

-- a sum of products of which each factor has its own number
pub total-product : (f g : ℕ → ℕ) (k m l n : ℕ) → total (λ a. total (λ b. f a * g b) l n) k m ≡ total f k m * total g l n
total-product f g k m l n =
    total-same (λ a. total (λ b. f a * g b) l n) (λ a. f a * total g l n) k m (λ a p q. total-scaled (f a) g l n)
    ∙ total-scale (total g l n) f k m

-- sums of sums in either order
pub total-swap : (f : ℕ → ℕ → ℕ) (k m l n : ℕ) → total (λ a. total (λ b. f a b) l n) k m ≡ total (λ b. total (λ a. f a b) k m) l n
unfolding total
total-swap f k zero l n = sym (total-zero l n)
total-swap f k (suc m) l n =
    ap (λ (x : ℕ). x + total (λ b. f (k + m) b) l n) (total-swap f k m l n)
    ∙ sym (total-plus (λ b. total (λ a. f a b) k m) (λ b. f (k + m) b) l n)

-- how often a number is in a range
pub total-at : (c k n : ℕ) → total (λ i. mark (c == i)) k n ≡ min (c + 1) (k + n) - max c k
unfolding total
total-at c k zero = omega arith
total-at c k (suc n) = let before : total (λ i. mark (c == i)) k n ≡ min (c + 1) (k + n) - max c k = total-at c k n in grind (arith, nat_tests)

-- how many numbers two ranges share
shared-more : (k m l n : ℕ) → (min (k + m) (l + n) - max k l) + (min (k + m + 1) (l + n) - max (k + m) l) ≡ min (k + suc m) (l + n) - max k l
shared-more k m l n = omega arith

pub total-common : (k m l n : ℕ) → total (λ a. total (λ b. mark (a == b)) l n) k m ≡ min (k + m) (l + n) - max k l
unfolding total
total-common k zero l n = omega arith
total-common k (suc m) l n =
    ap₂ (λ (a b : ℕ). a + b) (total-common k m l n) (total-at (k + m) l n) ∙ shared-more k m l n

-- all pairs of numbers below n: each two, in both orders, and each with itself
pub total-paired : (w : ℕ → ℕ → ℕ) (n : ℕ) →
    total (λ a. total (λ b. w a b) 0 n) 0 n ≡ total (λ b. total (λ a. w a b + w b a) 0 b + w b b) 0 n
total-paired w zero = unfold total in refl
total-paired w (suc n) =
    let first : total (λ a. total (λ b. w a b) 0 (suc n)) 0 n ≡ total (λ a. total (λ b. w a b) 0 n) 0 n + total (λ a. w a n) 0 n =
    total-same (λ a. total (λ b. w a b) 0 (suc n)) (λ a. total (λ b. w a b) 0 n + w a n) 0 n (λ a p q. total-push (λ b. w a b) n)
    ∙ total-plus (λ a. total (λ b. w a b) 0 n) (λ a. w a n) 0 n in
    let both : total (λ a. w a n + w n a) 0 n ≡ total (λ a. w a n) 0 n + total (λ a. w n a) 0 n = total-plus (λ a. w a n) (λ a. w n a) 0 n in
    let left : total (λ a. total (λ b. w a b) 0 (suc n)) 0 (suc n) ≡ total (λ a. total (λ b. w a b) 0 (suc n)) 0 n + total (λ b. w n b) 0 (suc n) =
    total-push (λ a. total (λ b. w a b) 0 (suc n)) n in
    let last : total (λ b. w n b) 0 (suc n) ≡ total (λ b. w n b) 0 n + w n n = total-push (λ b. w n b) n in
    let right : total (λ b. total (λ a. w a b + w b a) 0 b + w b b) 0 (suc n) ≡ total (λ b. total (λ a. w a b + w b a) 0 b + w b b) 0 n + (total (λ a. w a n + w n a) 0 n + w n n) =
    total-push (λ b. total (λ a. w a b + w b a) 0 b + w b b) n in
    let hyp : total (λ a. total (λ b. w a b) 0 n) 0 n ≡ total (λ b. total (λ a. w a b + w b a) 0 b + w b b) 0 n = total-paired w n in
    omega (arith, first, both, left, last, right, hyp)

-- ---- sums over lists

-- a range goes on with its next number
pub range-more : (k n : ℕ) → range_with_len k (n + 1) ≡ range_with_len k n ++ (k + n) ∷ []
range-more k n =
    sym (map-id (range_with_len k (n + 1)))
    ∙ map-range_with_len_more (λ (x : ℕ). x) k n (k + n) refl
    ∙ ap (λ xs. xs ++ (k + n) ∷ []) (map-id (range_with_len k n))

pub sum-range : (f : ℕ → ℕ) (k n : ℕ) → sum_by f (range_with_len k n) ≡ total f k n
unfolding total
sum-range f k zero = refl
sum-range f k (suc n) =
    subst (λ m. sum_by f (range_with_len k m) ≡ total f k n + f (k + n)) (add-one n)
    (ap (sum_by f) (range-more k n) ∙ sum_by_push f (range_with_len k n) (k + n) ∙ ap (λ (x : ℕ). x + f (k + n)) (sum-range f k n))

pub sum-map : {X : Type 0} (f : X → ℕ) (g : ℕ → X) (k n : ℕ) → sum_by f (map g (range_with_len k n)) ≡ total (λ i. f (g i)) k n
unfolding total
sum-map f g k zero = refl
sum-map f g k (suc n) =
    subst (λ m. sum_by f (map g (range_with_len k m)) ≡ total (λ i. f (g i)) k n + f (g (k + n))) (add-one n)
    (sum_by-map-range_with_len_more f g k n (k + n) refl ∙ ap (λ (x : ℕ). x + f (g (k + n))) (sum-map f g k n))

pub sum-flat : {X : Type 0} (f : X → ℕ) (g : ℕ → List X) (k n : ℕ) → sum_by f (flat_map g (range_with_len k n)) ≡ total (λ i. sum_by f (g i)) k n
unfolding total
sum-flat f g k zero = refl
sum-flat f g k (suc n) =
    let more : flat_map g (range_with_len k (n + 1)) ≡ flat_map g (range_with_len k n) ++ flat_map g ((k + n) ∷ []) =
    ap (flat_map g) (range-more k n) ∙ flat_map-append g (range_with_len k n) ((k + n) ∷ []) in
    let one : sum_by f (flat_map g ((k + n) ∷ [])) ≡ sum_by f (g (k + n)) = ap (sum_by f) (append-nil (g (k + n))) in
    subst (λ m. sum_by f (flat_map g (range_with_len k m)) ≡ total (λ i. sum_by f (g i)) k n + sum_by f (g (k + n))) (add-one n)
    (ap (sum_by f) more ∙ sum_by-append f (flat_map g (range_with_len k n)) (flat_map g ((k + n) ∷ [])) ∙ ap₂ (λ (a b : ℕ). a + b) (sum-flat f g k n) one)

-- terms no greater give a sum no greater
pub sum-le : {X : Type 0} (f g : X → ℕ) (xs : List X) → ((x : X) → f x ≤ g x) → sum_by f xs ≤ sum_by g xs
sum-le f g [] h = omega arith
sum-le f g (x ∷ xs) h = omega (arith, sum_by-cons f x xs, sum_by-cons g x xs, h x, sum-le f g xs h)

pub sum-same : {X : Type 0} (f g : X → ℕ) (xs : List X) → ((x : X) → f x ≡ g x) → sum_by f xs ≡ sum_by g xs
sum-same f g [] h = refl
sum-same f g (x ∷ xs) h = omega (arith, sum_by-cons f x xs, sum_by-cons g x xs, h x, sum-same f g xs h)

sum-plus : {X : Type 0} (f g : X → ℕ) (xs : List X) → sum_by (λ x. f x + g x) xs ≡ sum_by f xs + sum_by g xs
sum-plus f g [] = refl
sum-plus f g (x ∷ xs) = omega (arith, sum_by-cons f x xs, sum_by-cons g x xs, sum_by-cons (λ y. f y + g y) x xs, sum-plus f g xs)

sum-zero : {X : Type 0} (xs : List X) → sum_by (λ (x : X). 0) xs ≡ 0
sum-zero [] = refl
sum-zero {X} (x ∷ xs) = omega (arith, sum_by-cons (λ (y : X). 0) x xs, sum-zero xs)

-- a sum over a list of sums over a range, in the other order
pub sum-swap : {X : Type 0} (f : X → ℕ → ℕ) (xs : List X) (k n : ℕ) → sum_by (λ x. total (f x) k n) xs ≡ total (λ j. sum_by (λ x. f x j) xs) k n
unfolding total
sum-swap f xs k zero = sum-zero xs
sum-swap f xs k (suc n) =
    sum-plus (λ x. total (f x) k n) (λ x. f x (k + n)) xs
    ∙ ap (λ (y : ℕ). y + sum_by (λ x. f x (k + n)) xs) (sum-swap f xs k n)
