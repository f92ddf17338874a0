-- The counts of pairs: pair after pair, and the greatest of them.
use Rattle.std.proofs.Common.{◌≡◌, ◌≢◌, ℕ, zero, suc, ◌+◌, ◌^◌, ◌<◌, ◌≤◌, Bool, true, false, cond, List, ◌∷◌, length, get_or, take, drop, replicate, Option, None, Some, refl, sym, ap, ap₂, ◌∙◌, arith, subst, zero-add, add-zero, inl, inr, find}
use Rattle.std.specs.Prelude.{◌==◌, All, fold, max, unwrap_or}
use Rattle.std.specs.List.{range_with_len, count_by}
use Rattle.std.proofs.lemmas.Bool.{cases_eq, ne_eqb, eq-eqb, lt-ltb, le-ltb}
use Rattle.std.proofs.lemmas.List.{ext_get_or, get_or_default, take_all, length-take, length-replicate, get_or-replicate, at_drop_more, at_drop_all}
use Rattle.std.proofs.lemmas.List.FromFn.{length-map-range_with_len, get_or-map-range_with_len, length-range_with_len, get_or-range_with_len}
use Rattle.std.proofs.lemmas.List.Sums.{sum_by_more, count_by-le-length}
use Rattle.dem_model.specs.SceneValue.{SceneValue}
use Rattle.dem_model.specs.Look.{is_of_clump, contacts_of, most_of, busiest_of}
use Rattle.dem_model.specs.Motion.{IsPair}
use Rattle.dem_model.specs.Pairs.{sphere_count, sphere_at}
use Rattle.dem_model.specs.Step.{first_clump, is_second}
use Rattle.dem_model.specs.declared.state.Held.{Held}
use Rattle.dem_model.specs.declared.state.State.{State}
use Rattle.dem_force.proofs.SumFacts.{two_clumps}
use Rattle.dem_look.specs.Inside.{count_at, counts_of, one_where, AddsOne, CountsPair}

-- ---- the counts of some pairs

pub length-counts_of : (s : SceneValue) (held : List Held) → length (counts_of s held) ≡ length s.clumps
unfolding counts_of
length-counts_of s held = length-map-range_with_len (λ k. count_by (is_of_clump s k) held) 0 (length s.clumps)

counts-at : (s : SceneValue) (held : List Held) (k : ℕ) → k < length s.clumps → count_at (counts_of s held) k ≡ count_by (is_of_clump s k) held
unfolding counts_of
counts-at s held k lt = get_or-map-range_with_len (λ j. count_by (is_of_clump s j) held) 0 (length s.clumps) k k 0 lt (zero-add k)

-- no pair was counted yet
pub counts-none : (s : SceneValue) (held : List Held) (n : ℕ) → n ≡ length s.clumps → replicate n 0 ≡ counts_of s (take 0 held)
counts-none s held n size =
    ext_get_or 0 (replicate n 0) (counts_of s (take 0 held)) (length-replicate {A = ℕ} n 0 ∙ size ∙ sym (length-counts_of s (take 0 held)))
    (λ k lt.
    let there : k < n = omega (arith, length-replicate {A = ℕ} n 0) in
    get_or-replicate {A = ℕ} n k 0 0 there ∙ sym (counts-at s (take 0 held) k (omega arith)))

-- one more pair was counted
pub counts-more : (s : SceneValue) (held : List Held) (i : ℕ) (d : Held) (old new : List ℕ) → i < length held → old ≡ counts_of s (take i held) → CountsPair s (get_or held i d) old new
    → new ≡ counts_of s (take (i + 1) held)
counts-more s held i d old new lt before more =
    let old_size : length old ≡ length s.clumps = ap length before ∙ length-counts_of s (take i held) in
    let new_size : length new ≡ length s.clumps = more.count ∙ old_size in
    ext_get_or 0 new (counts_of s (take (i + 1) held)) (new_size ∙ sym (length-counts_of s (take (i + 1) held)))
    (λ k there.
    let here : k < length s.clumps = omega arith in
    more.each k (omega arith)
    ∙ ap (λ n. n + one_where (is_of_clump s k (get_or held i d))) (ap (λ (xs : List ℕ). count_at xs k) before ∙ counts-at s (take i held) k here)
    ∙ sym (sum_by_more (λ x. cond (is_of_clump s k x) 1 0) held i d lt)
    ∙ sym (counts-at s (take (i + 1) held) k here))

-- no count passes the number of pairs
pub counts-few : (s : SceneValue) (held : List Held) (i : ℕ) (counts : List ℕ) → i < 2 ^ 31 → counts ≡ counts_of s (take i held) → All (λ n. n < 2 ^ 31) counts
counts-few s held i counts few is k d lt =
    let size : length counts ≡ length s.clumps = ap length is ∙ length-counts_of s (take i held) in
    let here : k < length s.clumps = omega arith in
    let at : get_or counts k d ≡ count_by (is_of_clump s k) (take i held) =
    get_or_default counts k d 0 lt ∙ ap (λ (xs : List ℕ). count_at xs k) is ∙ counts-at s (take i held) k here in
    omega (arith, at, count_by-le-length (is_of_clump s k) (take i held), length-take i held)

-- all pairs were counted
pub counts-all : (s : SceneValue) (held : List Held) (i : ℕ) (counts : List ℕ) → length held ≤ i → counts ≡ counts_of s (take i held) → counts ≡ counts_of s held
counts-all s held i counts all is = is ∙ ap (counts_of s) (take_all i held all)

-- ---- one pair

-- the clump of a pair's first sphere
is-first : (s : SceneValue) (k : ℕ) (e : Held) → first_clump s e.pair ≡ k → is_of_clump s k e ≡ true
unfolding is_of_clump
is-first s k e same = rw (eq-eqb (first_clump s e.pair) k same) refl

-- the clump of its second
is-second : (s : SceneValue) (k : ℕ) (e : Held) → first_clump s e.pair ≢ k → e.pair.b < sphere_count s → (sphere_at s e.pair.b).clump ≡ k → is_of_clump s k e ≡ true
unfolding is_of_clump is_second
is-second s k e other lt same = rw (ne_eqb (first_clump s e.pair) k other, lt-ltb e.pair.b (sphere_count s) lt, eq-eqb (sphere_at s e.pair.b).clump k same) refl

-- another clump
is-other : (s : SceneValue) (k : ℕ) (e : Held) → first_clump s e.pair ≢ k → e.pair.b < sphere_count s → (sphere_at s e.pair.b).clump ≢ k → is_of_clump s k e ≡ false
unfolding is_of_clump is_second
is-other s k e other lt ne = rw (ne_eqb (first_clump s e.pair) k other, lt-ltb e.pair.b (sphere_count s) lt, ne_eqb (sphere_at s e.pair.b).clump k ne) refl

-- another clump, where the second is a wall
is-off : (s : SceneValue) (k : ℕ) (e : Held) → first_clump s e.pair ≢ k → sphere_count s ≤ e.pair.b → is_of_clump s k e ≡ false
unfolding is_of_clump is_second
is-off s k e other le = rw (ne_eqb (first_clump s e.pair) k other, le-ltb e.pair.b (sphere_count s) le) refl

-- a pair with a wall counts for one clump
pub one-clump : (s : SceneValue) (e : Held) (a : ℕ) (old new : List ℕ) → a ≡ first_clump s e.pair → sphere_count s ≤ e.pair.b → AddsOne a old new → CountsPair s e old new
one-clump s e a old new first wall adds = record {
  count = adds.count;
  each = λ k lt.
      elim (cases_eq k a) [
        | inl same ↦
            subst (λ j. count_at new j ≡ count_at old j + one_where (is_of_clump s j e)) (sym same)
            (adds.own ∙ ap (λ b. count_at old a + one_where b) (sym (is-first s a e (sym first))))
        | inr ne ↦
            adds.others k ne ∙ sym (add-zero (count_at old k)) ∙ sym (ap (λ b. count_at old k + one_where b) (is-off s k e (λ f. ne (sym f ∙ sym first)) wall))
      ];
}

-- a pair of two spheres counts for two clumps
pub two-counts : (s : SceneValue) (e : Held) (a b : ℕ) (old mid new : List ℕ) → IsPair s e.pair → a ≡ first_clump s e.pair → b ≡ (sphere_at s e.pair.b).clump → e.pair.b < sphere_count s
    → AddsOne a old mid → AddsOne b mid new → CountsPair s e old new
unfolding first_clump
two-counts s e a b old mid new pair first second sphere adds more =
    let apart : a ≢ b = λ f. two_clumps s e.pair pair sphere (sym first ∙ f ∙ second) in
    record {
      count = more.count ∙ adds.count;
      each = λ k lt.
          elim (cases_eq k b) [
            | inl same ↦
                subst (λ j. count_at new j ≡ count_at old j + one_where (is_of_clump s j e)) (sym same)
                (more.own ∙ ap (λ n. n + 1) (adds.others b (λ f. apart (sym f))) ∙ ap (λ x. count_at old b + one_where x) (sym (is-second s b e (λ f. apart (first ∙ f)) sphere (sym second))))
            | inr off_b ↦
                more.others k off_b
                ∙ elim (cases_eq k a) [
                  | inl same ↦
                      subst (λ j. count_at mid j ≡ count_at old j + one_where (is_of_clump s j e)) (sym same)
                      (adds.own ∙ ap (λ x. count_at old a + one_where x) (sym (is-first s a e (sym first))))
                  | inr off_a ↦
                      adds.others k off_a
                      ∙ sym (add-zero (count_at old k))
                      ∙ sym (ap (λ x. count_at old k + one_where x) (is-other s k e (λ f. off_a (sym f ∙ sym first)) sphere (λ f. off_b (sym f ∙ sym second))))
                ]
          ];
    }

-- ---- the greatest count, and the first clump that has it

-- the clump is it
pub found-at : (test : ℕ → Bool) (n k : ℕ) → k < n → test k ≡ true → find test (drop k (range_with_len 0 n)) ≡ find test (range_with_len 0 n) → find test (range_with_len 0 n) ≡ Some k
found-at test n k lt passes left =
    let here : get_or (range_with_len 0 n) k 0 ≡ k = get_or-range_with_len 0 n k 0 lt ∙ zero-add k in
    sym left
    ∙ at_drop_more (find test) (range_with_len 0 n) k 0 (omega (arith, length-range_with_len 0 n))
    ∙ ap (λ j. find test (j ∷ drop (k + 1) (range_with_len 0 n))) here
    ∙ ap (λ b. cond b (Some k) (find test (drop (k + 1) (range_with_len 0 n)))) passes

-- the clump isn't it
pub passed-by : (test : ℕ → Bool) (n k : ℕ) → k < n → test k ≡ false → find test (drop k (range_with_len 0 n)) ≡ find test (range_with_len 0 n)
    → find test (drop (k + 1) (range_with_len 0 n)) ≡ find test (range_with_len 0 n)
passed-by test n k lt fails left =
    let here : get_or (range_with_len 0 n) k 0 ≡ k = get_or-range_with_len 0 n k 0 lt ∙ zero-add k in
    sym
    (at_drop_more (find test) (range_with_len 0 n) k 0 (omega (arith, length-range_with_len 0 n))
    ∙ ap (λ j. find test (j ∷ drop (k + 1) (range_with_len 0 n))) here
    ∙ ap (λ b. cond b (Some k) (find test (drop (k + 1) (range_with_len 0 n)))) fails)
    ∙ left

-- no clump is it
pub found-none : (test : ℕ → Bool) (n k : ℕ) → n ≤ k → find test (drop k (range_with_len 0 n)) ≡ find test (range_with_len 0 n) → find test (range_with_len 0 n) ≡ None
found-none test n k all left = sym left ∙ at_drop_all (find test) (range_with_len 0 n) k (omega (arith, length-range_with_len 0 n))

-- tests that answer the same find the same
find-same : (p q : ℕ → Bool) (a n : ℕ) → ((k : ℕ) → k < a + n → p k ≡ q k) → find p (range_with_len a n) ≡ find q (range_with_len a n)
find-same p q a zero same = refl
find-same p q a (suc n) same =
    ap₂ (λ (b : Bool) (o : Option ℕ). cond b (Some a) o) (same a (omega arith)) (find-same p q (a + 1) n (λ k lt. same k (omega arith)))

-- the greatest count is that of the state
pub most-is : (s : SceneValue) (st : State) → fold max 0 (counts_of s st.held) ≡ most_of s st
unfolding counts_of most_of contacts_of
most-is s st = refl

-- and the first clump with it is that of the state
pub busiest-is : (s : SceneValue) (st : State) (most : ℕ) → most ≡ most_of s st
    → unwrap_or (find (λ k. count_at (counts_of s st.held) k == most) (range_with_len 0 (length (counts_of s st.held)))) 0 ≡ busiest_of s st
unfolding busiest_of contacts_of
busiest-is s st most is =
    ap (λ o. unwrap_or o 0)
    (ap (λ n. find (λ k. count_at (counts_of s st.held) k == most) (range_with_len 0 n)) (length-counts_of s st.held)
    ∙ find-same (λ k. count_at (counts_of s st.held) k == most) (λ k. count_by (is_of_clump s k) st.held == most_of s st) 0 (length s.clumps)
    (λ k lt. ap₂ (λ (m n : ℕ). m == n) (counts-at s st.held k (omega arith)) is))
