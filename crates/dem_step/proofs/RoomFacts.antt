-- A list that is written place by place.
use Rattle.std.proofs.Common.{◌≡◌, ℕ, zero, suc, ◌+◌, ◌<◌, ◌≤◌, List, [], ◌∷◌, ◌++◌, length, take, refl, ap, ◌∙◌, arith, subst, add-one, take-suc, Some}
use Rattle.std.specs.Prelude.{slice_set, slice_get, All}
use Rattle.std.proofs.lemmas.List.{take_all}
use Rattle.std.proofs.lemmas.Option.{get_or_from_slice_get, slice_get_within}

-- the first k elements and the one that was put at place k
pub take-set : {X : Type 0} (xs : List X) (k : ℕ) (x : X) → k < length xs → take (k + 1) (slice_set xs k x) ≡ take k xs ++ x ∷ []
take-set [] k x lt = let no : ⊥ = omega arith in absurd no
take-set (y ∷ ys) zero x lt = refl
take-set (y ∷ ys) (suc k) x lt =
    let e : suc (k + 1) ≡ suc k + 1 = omega arith in
    subst (λ n. take n (y ∷ slice_set ys k x) ≡ take (suc k) (y ∷ ys) ++ x ∷ []) e (ap (λ zs. y ∷ zs) (take-set ys k x (omega arith)))

-- all elements
pub take-whole : {X : Type 0} (xs : List X) (k : ℕ) → length xs ≤ k → take k xs ≡ xs
take-whole xs k le = take_all k xs le

-- a list keeps its length
pub length-set : {X : Type 0} (xs : List X) (k : ℕ) (x : X) → length (slice_set xs k x) ≡ length xs
length-set [] k x = refl
length-set (y ∷ ys) zero x = refl
length-set (y ∷ ys) (suc k) x = ap suc (length-set ys k x)

-- what holds of all elements holds of the one that was read
pub all-read : {X : Type 0} (P : X → Type 0) (xs : List X) (k : ℕ) (x : X) → All P xs → slice_get xs k ≡ Some x → P x
all-read P xs k x all there = subst P (get_or_from_slice_get xs k x x there) (all k x (slice_get_within xs k x there))

-- the first elements and the one at the next place
pub take-next : {X : Type 0} (xs : List X) (k : ℕ) (x : X) → slice_get xs k ≡ Some x → take (k + 1) xs ≡ take k xs ++ x ∷ []
take-next xs k x there =
    let lt : k < length xs = slice_get_within xs k x there in
    rw (add-one) (take-suc xs k x lt ∙ ap (λ q. take k xs ++ q ∷ []) (get_or_from_slice_get xs k x x there))
