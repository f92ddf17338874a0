-- What lists contain that are joined, mapped, filtered or ranges of numbers.
use Rattle.std.proofs.Common.{◌≡◌, ℕ, zero, suc, ◌+◌, ◌-◌, ◌<◌, ◌≤◌, ◌⊎◌, inl, inr, List, [], ◌∷◌, map, get_or, refl, sym, ◌∙◌, arith, subst, Bool, true, false}
use Rattle.std.specs.Prelude.{filter}
use Rattle.std.specs.List.{Contains, flat_map, range_with_len}
use Rattle.std.proofs.lemmas.Bool.{cases_Bool, both_ways}
use Rattle.std.proofs.lemmas.List.Elements.{Contains-append_left, Contains-append_right, Contains-append_cases}
use Rattle.std.proofs.lemmas.List.FromFn.{length-range_with_len, get_or-range_with_len}

pub none-has : {X : Type 0} (x : X) → Contains [] x → ⊥
none-has x c = omega (arith, c.1)

pub first-has : {X : Type 0} (x : X) (xs : List X) → Contains (x ∷ xs) x
first-has x xs = (0, omega arith, refl)

pub rest-has : {X : Type 0} (z x : X) (xs : List X) → Contains xs x → Contains (z ∷ xs) x
rest-has z x xs c = (suc c.0, omega (arith, c.1), c.2)

-- what a list contains is its first, or the rest contains it
pub has-cases : {X : Type 0} (z x : X) (xs : List X) → Contains (z ∷ xs) x → (z ≡ x) ⊎ Contains xs x
has-cases z x xs (zero, l, e) = inl e
has-cases z x xs (suc k, l, e) = inr (k, omega arith, e)

-- an element, and a place of what it is mapped to
pub record IsFrom {X Y : Type 0} (xs : List X) (f : X → List Y) (y : Y) : Type 0 where
  pub it : X
  pub there : Contains xs it
  pub has : Contains (f it) y

pub flat-has : {X Y : Type 0} (f : X → List Y) (xs : List X) (x : X) (y : Y) → Contains xs x → Contains (f x) y → Contains (flat_map f xs) y
flat-has f [] x y c d = absurd (none-has x c)
flat-has f (z ∷ xs) x y c d =
    elim (has-cases z x xs c) [
      | inl e ↦ Contains-append_left (f z) (flat_map f xs) y (subst (λ w. Contains (f w) y) (sym e) d)
      | inr c' ↦ Contains-append_right (f z) (flat_map f xs) y (flat-has f xs x y c' d)
    ]

pub flat-from : {X Y : Type 0} (f : X → List Y) (xs : List X) (y : Y) → Contains (flat_map f xs) y → IsFrom xs f y
flat-from f [] y c = absurd (none-has y c)
flat-from f (z ∷ xs) y c =
    elim (Contains-append_cases (f z) (flat_map f xs) y c) [
      | inl d ↦ record { it = z; there = first-has z xs; has = d }
      | inr d ↦ let r = flat-from f xs y d in record { it = r.it; there = rest-has z r.it xs r.there; has = r.has }
    ]

pub map-has : {X Y : Type 0} (f : X → Y) (xs : List X) (x : X) → Contains xs x → Contains (map f xs) (f x)
map-has f [] x c = absurd (none-has x c)
map-has f (z ∷ xs) x c =
    elim (has-cases z x xs c) [
      | inl e ↦ subst (λ w. Contains (f z ∷ map f xs) (f w)) e (first-has (f z) (map f xs))
      | inr c' ↦ rest-has (f z) (f x) (map f xs) (map-has f xs x c')
    ]

-- an element that is mapped to another
pub record IsImage {X Y : Type 0} (xs : List X) (f : X → Y) (y : Y) : Type 0 where
  pub it : X
  pub there : Contains xs it
  pub is : f it ≡ y

pub map-from : {X Y : Type 0} (f : X → Y) (xs : List X) (y : Y) → Contains (map f xs) y → IsImage xs f y
map-from f [] y c = absurd (none-has y c)
map-from f (z ∷ xs) y c =
    elim (has-cases (f z) y (map f xs) c) [
      | inl e ↦ record { it = z; there = first-has z xs; is = e }
      | inr d ↦ let r = map-from f xs y d in record { it = r.it; there = rest-has z r.it xs r.there; is = r.is }
    ]

pub filter-has : {X : Type 0} (p : X → Bool) (xs : List X) (x : X) → Contains xs x → p x ≡ true → Contains (filter p xs) x
filter-has p [] x c t = absurd (none-has x c)
filter-has p (z ∷ xs) x c t =
    elim (cases_Bool (p z)) [
      | inl e ↦ rw e (elim (has-cases z x xs c) [
        | inl d ↦ subst (λ w. Contains (z ∷ filter p xs) w) d (first-has z (filter p xs))
        | inr c' ↦ rest-has z x (filter p xs) (filter-has p xs x c' t)
      ])
      | inr e ↦ rw e (elim (has-cases z x xs c) [
        | inl d ↦ absurd (both_ways (p z) e (subst (λ w. p w ≡ true) (sym d) t))
        | inr c' ↦ filter-has p xs x c' t
      ])
    ]

-- what a filter keeps was there, and passes
pub record IsKept {X : Type 0} (p : X → Bool) (xs : List X) (x : X) : Type 0 where
  pub there : Contains xs x
  pub passes : p x ≡ true

kept-cases : {X : Type 0} (p : X → Bool) (z x : X) (xs : List X) (b : Bool) → p z ≡ b → Contains (filter p (z ∷ xs)) x → (Contains (filter p xs) x → IsKept p xs x) → IsKept p (z ∷ xs) x
kept-cases p z x xs true e c rest =
    elim (has-cases z x (filter p xs) (rw e at c)) [
      | inl d ↦ record { there = subst (λ w. Contains (z ∷ xs) w) d (first-has z xs); passes = subst (λ w. p w ≡ true) d e }
      | inr c' ↦ let r = rest c' in record { there = rest-has z x xs r.there; passes = r.passes }
    ]
kept-cases p z x xs false e c rest = let r = rest (rw e at c) in record { there = rest-has z x xs r.there; passes = r.passes }

pub filter-from : {X : Type 0} (p : X → Bool) (xs : List X) (x : X) → Contains (filter p xs) x → IsKept p xs x
filter-from p [] x c = absurd (none-has x c)
filter-from p (z ∷ xs) x c = kept-cases p z x xs (p z) refl c (λ d. filter-from p xs x d)

pub range-has : (k n i : ℕ) → k ≤ i → i < k + n → Contains (range_with_len k n) i
range-has k n i low high =
    (i - k, omega (arith, length-range_with_len k n), get_or-range_with_len k n (i - k) i (omega arith) ∙ (omega arith))

-- a number lies in a range
pub record IsInRange (k n i : ℕ) : Type 0 where
  pub low : k ≤ i
  pub high : i < k + n

pub range-from : (k n i : ℕ) → Contains (range_with_len k n) i → IsInRange k n i
range-from k n i c =
    let at : get_or (range_with_len k n) c.0 i ≡ k + c.0 = get_or-range_with_len k n c.0 i (omega (arith, c.1, length-range_with_len k n)) in
    record { low = omega (arith, at, c.2); high = omega (arith, at, c.2, c.1, length-range_with_len k n) }
