-- The list of all pairs, row by row and place by place.
use Rattle.std.proofs.Common.{◌≡◌, ℕ, zero, suc, ◌+◌, ◌<◌, ◌≤◌, [], ◌∷◌, ◌++◌, map, refl, sym, ap, ◌∙◌, arith, subst, zero-add, add-one, true, false, inl, inr}
use Rattle.std.specs.Prelude.{if◌then◌else◌, filter}
use Rattle.std.specs.List.{flat_map, range_with_len, Contains}
use Rattle.std.proofs.lemmas.List.{append-nil, map-id, map-append}
use Rattle.std.proofs.lemmas.List.Concat.{flat_map-append}
use Rattle.std.proofs.lemmas.List.Elements.{filter-append, Contains-append_cases, Contains-append_left, Contains-append_right}
use Rattle.std.proofs.lemmas.List.FromFn.{map-range_with_len_more}
use Rattle.std.proofs.lemmas.Bool.{cases_Bool, cases_eq}
use Rattle.std.proofs.lemmas.Bool.Decides.{nat_tests}
use Rattle.dem_model.specs.SceneValue.{SceneValue}
use Rattle.dem_model.specs.Motion.{IsPair}
use Rattle.dem_model.specs.Pairs.{sphere_count, limit_of, pair_of, apart, row_below, pairs_below, all_pairs}
use Rattle.dem_model.specs.declared.state.Pair.{Pair}

-- the numbers below n and then n
pub range-more : (n : ℕ) → range_with_len 0 (n + 1) ≡ range_with_len 0 n ++ n ∷ []
range-more n =
    sym (map-id (range_with_len 0 (n + 1)))
    ∙ map-range_with_len_more (λ (x : ℕ). x) 0 n n (zero-add n)
    ∙ ap (λ xs. xs ++ n ∷ []) (map-id (range_with_len 0 n))

-- a row goes on with its next pair
pub row_below-more : (s : SceneValue) (a b : ℕ) → row_below s a (b + 1) ≡ row_below s a b ++ (if apart s (pair_of a b) then pair_of a b ∷ [] else [])
unfolding row_below
row_below-more s a b =
    ap (λ xs. filter (apart s) (map (pair_of a) xs)) (range-more b)
    ∙ ap (filter (apart s)) (map-append (pair_of a) (range_with_len 0 b) (b ∷ []))
    ∙ filter-append (apart s) (map (pair_of a) (range_with_len 0 b)) (pair_of a b ∷ [])

-- a sphere isn't apart from what is numbered up to itself
pub apart-later : (s : SceneValue) (a b : ℕ) → b ≤ a → apart s (pair_of a b) ≡ false
unfolding apart
apart-later s a b h = grind (arith, nat_tests)

-- a row is empty up to its own sphere
pub row_below-start : (s : SceneValue) (a b : ℕ) → b ≤ a + 1 → row_below s a b ≡ []
row_below-start s a zero h = unfold row_below in refl
row_below-start s a (suc b) h =
    let later : apart s (pair_of a b) ≡ false = apart-later s a b (omega arith) in
    let before : row_below s a b ≡ [] = row_below-start s a b (omega arith) in
    let more : row_below s a (b + 1) ≡ row_below s a b ++ (if apart s (pair_of a b) then pair_of a b ∷ [] else []) = row_below-more s a b in
    rw (← add-one, more, before, later) refl

-- the pairs go on with the next row
pub pairs_below-more : (s : SceneValue) (a : ℕ) → pairs_below s (a + 1) ≡ pairs_below s a ++ row_below s a (limit_of s)
unfolding pairs_below
pairs_below-more s a =
    ap (flat_map (λ i. row_below s i (limit_of s))) (range-more a)
    ∙ flat_map-append (λ i. row_below s i (limit_of s)) (range_with_len 0 a) (a ∷ [])
    ∙ ap (λ xs. flat_map (λ i. row_below s i (limit_of s)) (range_with_len 0 a) ++ xs) (append-nil (row_below s a (limit_of s)))

-- there are no pairs before the first row
pub pairs_below-none : (s : SceneValue) → pairs_below s 0 ≡ []
unfolding pairs_below
pairs_below-none s = refl

-- a pair that is apart has its second after its first
pub apart-order : (s : SceneValue) (p : Pair) → apart s p ≡ true → p.a < p.b
unfolding apart
apart-order s p h = grind (arith, nat_tests)

-- ---- all pairs are the pairs that may touch

-- a pair of a row: of this sphere, with something numbered below b, and apart
record IsOfRow (s : SceneValue) (a b : ℕ) (p : Pair) : Type 0 where
  first : p.a ≡ a
  below : p.b < b
  is_apart : apart s p ≡ true

contains_one : (q p : Pair) → Contains (q ∷ []) p → q ≡ p
contains_one q p (zero, l, e) = e
contains_one q p (suc k, l, e) = absurd (omega arith)

contains_none : (p : Pair) → Contains [] p → ⊥
contains_none p c = omega (arith, c.1)

-- what a row has is of it
row_below-has : (s : SceneValue) (a b : ℕ) (p : Pair) → Contains (row_below s a b) p → IsOfRow s a b p
row_below-has s a zero p c = absurd (contains_none p (subst (λ ps. Contains ps p) (row_below-start s a 0 (omega arith)) c))
row_below-has s a (suc b) p c =
    let more : row_below s a (b + 1) ≡ row_below s a b ++ (if apart s (pair_of a b) then pair_of a b ∷ [] else []) = row_below-more s a b in
    let both : Contains (row_below s a b ++ (if apart s (pair_of a b) then pair_of a b ∷ [] else [])) p = subst (λ ps. Contains ps p) more (rw add-one c) in
    elim (Contains-append_cases (row_below s a b) (if apart s (pair_of a b) then pair_of a b ∷ [] else []) p both) [
      | inl h ↦ let r = row_below-has s a b p h in record { first = r.first; below = omega (arith, r.below); is_apart = r.is_apart }
      | inr h ↦ elim (cases_Bool (apart s (pair_of a b))) [
        | inl t ↦ subst (λ q. IsOfRow s a (suc b) q) (contains_one (pair_of a b) p (rw t at h)) (record { first = refl; below = omega arith; is_apart = t })
        | inr f ↦ absurd (contains_none p (rw f at h))
      ]
    ]

-- a row has what is of it
row_below-last : (s : SceneValue) (p : Pair) → apart s p ≡ true → Contains (row_below s p.a (p.b + 1)) p
row_below-last s p h = rw (row_below-more s p.a p.b, h) (Contains-append_right (row_below s p.a p.b) (p ∷ []) p (0, omega arith, refl))

row_below-all : (s : SceneValue) (b : ℕ) (p : Pair) → p.b < b → apart s p ≡ true → Contains (row_below s p.a b) p
row_below-all s zero p lt h = absurd (omega arith)
row_below-all s (suc b) p lt h =
    elim (cases_eq p.b b) [
      | inl e ↦ subst (λ n. Contains (row_below s p.a n) p) (ap (λ n. n + 1) e ∙ add-one b) (row_below-last s p h)
      | inr ne ↦
          rw (← add-one, row_below-more s p.a b)
          (Contains-append_left (row_below s p.a b) (if apart s (pair_of p.a b) then pair_of p.a b ∷ [] else []) p (row_below-all s b p (omega arith) h))
    ]

-- a pair of the spheres below a
record IsBelow (s : SceneValue) (a : ℕ) (p : Pair) : Type 0 where
  first : p.a < a
  second : p.b < limit_of s
  is_apart : apart s p ≡ true

pairs_below-has : (s : SceneValue) (a : ℕ) (p : Pair) → Contains (pairs_below s a) p → IsBelow s a p
pairs_below-has s zero p c = absurd (contains_none p (subst (λ ps. Contains ps p) (pairs_below-none s) c))
pairs_below-has s (suc a) p c =
    let both : Contains (pairs_below s a ++ row_below s a (limit_of s)) p = subst (λ ps. Contains ps p) (pairs_below-more s a) (rw add-one c) in
    elim (Contains-append_cases (pairs_below s a) (row_below s a (limit_of s)) p both) [
      | inl h ↦ let r = pairs_below-has s a p h in record { first = omega (arith, r.first); second = r.second; is_apart = r.is_apart }
      | inr h ↦ let r = row_below-has s a (limit_of s) p h in record { first = omega (arith, r.first); second = r.below; is_apart = r.is_apart }
    ]

pairs_below-all : (s : SceneValue) (a : ℕ) (p : Pair) → IsBelow s a p → Contains (pairs_below s a) p
pairs_below-all s zero p h = absurd (omega (arith, h.first))
pairs_below-all s (suc a) p h =
    rw (← add-one, pairs_below-more s a)
    (elim (cases_eq p.a a) [
      | inl e ↦
          Contains-append_right (pairs_below s a) (row_below s a (limit_of s)) p
          (subst (λ n. Contains (row_below s n (limit_of s)) p) e (row_below-all s (limit_of s) p h.second h.is_apart))
      | inr ne ↦
          Contains-append_left (pairs_below s a) (row_below s a (limit_of s)) p
          (pairs_below-all s a p (record { first = omega (arith, h.first); second = h.second; is_apart = h.is_apart }))
    ])

-- each of all pairs may touch
pub all_pairs-are : (s : SceneValue) (p : Pair) → Contains (all_pairs s) p → IsPair s p
unfolding all_pairs
all_pairs-are s p c = let h = pairs_below-has s (sphere_count s) p c in record { first = h.first; second = h.second; is_apart = h.is_apart }

-- each pair that may touch is one of them
pub all_pairs-all : (s : SceneValue) (p : Pair) → IsPair s p → Contains (all_pairs s) p
unfolding all_pairs
all_pairs-all s p h = pairs_below-all s (sphere_count s) p (record { first = h.first; second = h.second; is_apart = h.is_apart })
