-- All pairs ascend, and ascending lists of the same pairs are one list.
use Rattle.std.proofs.Common.{◌≡◌, ℕ, zero, suc, ◌+◌, ◌<◌, ◌≤◌, ◌⊎◌, inl, inr, List, [], ◌∷◌, ◌++◌, length, get_or, refl, sym, ap, ap₂, ◌∙◌, arith, subst, add-one}
use Rattle.std.specs.Prelude.{if◌then◌else◌, All}
use Rattle.std.specs.List.{Contains}
use Rattle.std.specs.declared.cmp.Ordering.TheVariants.{Less}
use Rattle.std.proofs.lemmas.Bool.{cases_lt, cases_Bool}
use Rattle.std.proofs.lemmas.Bool.Decides.{nat_tests}
use Rattle.std.proofs.lemmas.List.{append-nil, append_assoc, get_or_append_left, get_or_push, length_push}
use Rattle.std.proofs.lemmas.List.Elements.{All-push, All-nil}
use Rattle.std.proofs.lemmas.List.Kept.{IsStrictlySortedBy-filter}
use Rattle.std.proofs.lemmas.Map.Keys.{Less-from_sorted, sorted_from_all_adjacent, sorted_tail}
use Rattle.dem_num.specs.declared.vector.Vec3.{Vec3}
use Rattle.dem_model.specs.SceneValue.{SceneValue}
use Rattle.dem_model.specs.Pairs.{sphere_count, limit_of, pair_of, apart, row_below, pairs_below, all_pairs, pair_cmp}
use Rattle.dem_model.specs.Near.{near, near_of}
use Rattle.dem_model.specs.declared.state.Pair.{Pair}
use Rattle.dem_model.proofs.PairFacts.{row_below-more, row_below-start, pairs_below-more, pairs_below-none}
use Rattle.dem_list.specs.Ascending.{IsAscending, HasSamePairs}
use Rattle.dem_list.proofs.AscendingFacts.{pair_cmp-total, IsAscending-none}

-- ---- ascending lists of the same pairs

-- the first of an ascending list comes before what the rest contains
head_before : (p x : Pair) (ps : List Pair) → IsAscending (p ∷ ps) → Contains ps x → pair_cmp p x ≡ Less
head_before p x ps s c =
    let less : pair_cmp (get_or (p ∷ ps) 0 x) (get_or (p ∷ ps) (suc c.0) x) ≡ Less = Less-from_sorted {K = Pair} pair_cmp (p ∷ ps) 0 (suc c.0) x s (omega arith) (omega (arith, c.1)) in
    rw c.2 at less

-- no pair comes before itself
not_before_itself : (p : Pair) → pair_cmp p p ≡ Less → ⊥
not_before_itself p h = grind (arith, nat_tests)

-- of two pairs only one comes before the other
not_both_before : (p q : Pair) → pair_cmp p q ≡ Less → pair_cmp q p ≡ Less → ⊥
not_both_before p q h k = not_before_itself p (pair_cmp-total.trans p q p h k)

-- what a list contains is its first, or the rest contains it
contains_cases : (p x : Pair) (ps : List Pair) → Contains (p ∷ ps) x → (p ≡ x) ⊎ Contains ps x
contains_cases p x ps (zero, l, e) = inl e
contains_cases p x ps (suc k, l, e) = inr (k, omega arith, e)

contains_first : (p : Pair) (ps : List Pair) → Contains (p ∷ ps) p
contains_first p ps = (0, omega arith, refl)

contains_rest : (p x : Pair) (ps : List Pair) → Contains ps x → Contains (p ∷ ps) x
contains_rest p x ps c = (suc c.0, omega (arith, c.1), c.2)

contains_none : (x : Pair) → Contains [] x → ⊥
contains_none x c = omega (arith, c.1)

-- the first pairs of ascending lists of the same pairs are one
same_first : (p q : Pair) (ps qs : List Pair) → IsAscending (p ∷ ps) → IsAscending (q ∷ qs) → Contains (q ∷ qs) p → Contains (p ∷ ps) q → p ≡ q
same_first p q ps qs s t c d =
    elim (contains_cases q p qs c) [
      | inl e ↦ sym e
      | inr c' ↦ elim (contains_cases p q ps d) [
        | inl e ↦ e
        | inr d' ↦ absurd (not_both_before p q (head_before p q ps s d') (head_before q p qs t c'))
      ]
    ]

-- without the first, what the one contains the other does
rest_contains : (p : Pair) (ps qs : List Pair) → IsAscending (p ∷ ps) → ((x : Pair) → Contains (p ∷ ps) x → Contains (p ∷ qs) x) → (x : Pair) → Contains ps x → Contains qs x
rest_contains p ps qs s h x c =
    elim (contains_cases p x qs (h x (contains_rest p x ps c))) [
      | inl e ↦ absurd (not_before_itself p (subst (λ y. pair_cmp p y ≡ Less) (sym e) (head_before p x ps s c)))
      | inr c' ↦ c'
    ]

-- ascending lists of the same pairs are one list
pub same_ascending : (ps qs : List Pair) → IsAscending ps → IsAscending qs → HasSamePairs ps qs → ps ≡ qs
same_ascending [] [] s t h = refl
same_ascending [] (q ∷ qs) s t h = absurd (contains_none q ((h q).1 (contains_first q qs)))
same_ascending (p ∷ ps) [] s t h = absurd (contains_none p ((h p).0 (contains_first p ps)))
same_ascending (p ∷ ps) (q ∷ qs) s t h =
    let first : p ≡ q = same_first p q ps qs s t ((h p).0 (contains_first p ps)) ((h q).1 (contains_first q qs)) in
    let s' : IsAscending (q ∷ ps) = subst (λ x. IsAscending (x ∷ ps)) first s in
    let h' : HasSamePairs (q ∷ ps) (q ∷ qs) = subst (λ x. HasSamePairs (x ∷ ps) (q ∷ qs)) first h in
    let rest : ps ≡ qs = same_ascending ps qs (sorted_tail pair_cmp p ps s) (sorted_tail pair_cmp q qs t)
    (λ x. (rest_contains q ps qs s' (λ y. (h' y).0) x, rest_contains q qs ps t (λ y. (h' y).1) x)) in
    ap₂ (λ (x : Pair) (xs : List Pair). x ∷ xs) first rest

-- ---- all pairs ascend

-- each of these pairs comes before a pair
abbrev pub AreBefore : List Pair → Pair → Type 0
AreBefore ps p = All (λ q. pair_cmp q p ≡ Less) ps

-- one more pair, which all others come before
ascending-push : (ps : List Pair) (p : Pair) → IsAscending ps → AreBefore ps p → IsAscending (ps ++ p ∷ [])
ascending-push ps p s before =
    sorted_from_all_adjacent pair_cmp-total (ps ++ p ∷ []) p (λ k l. by k (omega (arith, length_push ps p)) (cases_lt (k + 1) (length ps)))
  where
    by : (k : ℕ) → k < length ps → ((k + 1) < length ps) ⊎ (length ps ≤ k + 1) → pair_cmp (get_or (ps ++ p ∷ []) k p) (get_or (ps ++ p ∷ []) (k + 1) p) ≡ Less
    by k l (inl m) = rw (get_or_append_left ps (p ∷ []) p k l, get_or_append_left ps (p ∷ []) p (k + 1) m) (Less-from_sorted {K = Pair} pair_cmp ps k (k + 1) p s (omega arith) m)
    by k l (inr m) = rw (get_or_append_left ps (p ∷ []) p k l, get_or_push ps p p (k + 1) (omega arith)) (before k p l)

-- these pairs ascend, and each comes before a pair
record IsBelow (ps : List Pair) (p : Pair) : Type 0 where
  ascends : IsAscending ps
  before : AreBefore ps p

-- a later bound is a bound
below-later : (ps : List Pair) (p q : Pair) → pair_cmp p q ≡ Less → IsBelow ps p → IsBelow ps q
below-later ps p q less h = record { ascends = h.ascends; before = λ k d l. pair_cmp-total.trans (get_or ps k d) p q (h.before k d l) less }

-- the next place of a row, and the first of the next row, come after a place
next_place : (a b : ℕ) → pair_cmp (pair_of a b) (pair_of a (b + 1)) ≡ Less
next_place a b = grind (arith, nat_tests)

next_row : (a b : ℕ) → pair_cmp (pair_of a b) (pair_of (a + 1) 0) ≡ Less
next_row a b = grind (arith, nat_tests)

-- one place more
below-place : (s : SceneValue) (a b : ℕ) (ps : List Pair) → IsBelow ps (pair_of a b) → IsBelow (ps ++ (if apart s (pair_of a b) then pair_of a b ∷ [] else [])) (pair_of a (b + 1))
below-place s a b ps h =
    elim (cases_Bool (apart s (pair_of a b))) [
      | inl e ↦ rw e (record {
        ascends = ascending-push ps (pair_of a b) h.ascends h.before;
        before = All-push (λ q. pair_cmp q (pair_of a (b + 1)) ≡ Less) ps (pair_of a b) (below-later ps (pair_of a b) (pair_of a (b + 1)) (next_place a b) h).before (next_place a b);
      })
      | inr e ↦ rw e (subst (λ qs. IsBelow qs (pair_of a (b + 1))) (sym (append-nil ps)) (below-later ps (pair_of a b) (pair_of a (b + 1)) (next_place a b) h))
    ]

-- a part of a row
below-row : (s : SceneValue) (a b : ℕ) → IsBelow (pairs_below s a) (pair_of a 0) → IsBelow (pairs_below s a ++ row_below s a b) (pair_of a b)
below-row s a zero h = rw (row_below-start s a 0 (omega arith)) (subst (λ qs. IsBelow qs (pair_of a 0)) (sym (append-nil (pairs_below s a))) h)
below-row s a (suc b) h =
    let more : (pairs_below s a ++ row_below s a b) ++ (if apart s (pair_of a b) then pair_of a b ∷ [] else []) ≡ pairs_below s a ++ row_below s a (b + 1) =
    append_assoc (pairs_below s a) (row_below s a b) (if apart s (pair_of a b) then pair_of a b ∷ [] else []) ∙ ap (λ xs. pairs_below s a ++ xs) (sym (row_below-more s a b)) in
    let here : IsBelow (pairs_below s a ++ row_below s a (b + 1)) (pair_of a (b + 1)) =
    subst (λ qs. IsBelow qs (pair_of a (b + 1))) more (below-place s a b (pairs_below s a ++ row_below s a b) (below-row s a b h)) in
    subst (λ n. IsBelow (pairs_below s a ++ row_below s a n) (pair_of a n)) (add-one b) here

-- some rows
below-rows : (s : SceneValue) (a : ℕ) → IsBelow (pairs_below s a) (pair_of a 0)
below-rows s zero = rw (pairs_below-none s) (record { ascends = IsAscending-none [] refl; before = All-nil (λ q. pair_cmp q (pair_of 0 0) ≡ Less) })
below-rows s (suc a) =
    let row : IsBelow (pairs_below s a ++ row_below s a (limit_of s)) (pair_of (a + 1) 0) =
    below-later (pairs_below s a ++ row_below s a (limit_of s)) (pair_of a (limit_of s)) (pair_of (a + 1) 0) (next_row a (limit_of s)) (below-row s a (limit_of s) (below-rows s a)) in
    let whole : IsBelow (pairs_below s (a + 1)) (pair_of (a + 1) 0) = rw (pairs_below-more s a) row in
    subst (λ n. IsBelow (pairs_below s n) (pair_of n 0)) (add-one a) whole

-- all pairs ascend
pub all_pairs-ascend : (s : SceneValue) → IsAscending (all_pairs s)
unfolding all_pairs
all_pairs-ascend s = (below-rows s (sphere_count s)).ascends

-- so do the near pairs
pub near_of-ascend : (s : SceneValue) (drift : ℕ) (centers : List Vec3) → IsAscending (near_of s drift centers)
unfolding near_of
near_of-ascend s drift centers = IsStrictlySortedBy-filter pair_cmp (near s drift centers) (all_pairs s) (all_pairs-ascend s)

-- what was added to a raw list, once settled
pub settled_is : (raw qs ps : List Pair) → IsAscending qs → HasSamePairs raw qs → raw ≡ ps → IsAscending ps → qs ≡ ps
settled_is raw qs ps s h e t = same_ascending qs ps s t (subst (λ xs. HasSamePairs qs xs) e (λ p. ((h p).1, (h p).0)))
