-- What is held of a pair, from the place that a walk of an ascending list has reached.
use Rattle.std.proofs.Common.{◌++◌, add-one, take-suc, take_all, ap₂, subst, ◌≡◌, ◌≢◌, ◌⊎◌, inl, inr, ℕ, zero, suc, ◌+◌, ◌-◌, ◌<◌, ◌≤◌, ◌==◌, ◌&&◌, true, false, List, [], ◌∷◌, length, get_or, take, drop, map, slice_get, Option, Some, None, refl, sym, ap, ◌∙◌, arith}
use Rattle.std.specs.List.{cons_option, slice_range}
use Rattle.std.specs.Option.{option_map}
use Rattle.std.specs.Ordering.{is_lt}
use Rattle.std.specs.declared.cmp.Ordering.TheVariants.{Less}
use Rattle.std.proofs.lemmas.Bool.{cases_lt, false_from_ne_true}
use Rattle.std.proofs.lemmas.List.{map-append, length-map, length-drop, length-take-le, take-append-drop, take-take, drop-take, take-map, drop-map, get_or-take, get_or-drop, get_or-map, get_or_default, same_lists}
use Rattle.std.proofs.lemmas.Option.{get_or_from_slice_get, slice_get_within}
use Rattle.std.proofs.lemmas.Bool.Decides.{nat_tests}
use Rattle.std.proofs.lemmas.Map.Keys.{Less-from_sorted}
use Rattle.dem_num.specs.declared.vector.Vec3.{Vec3}
use Rattle.dem_model.specs.declared.state.Pair.{Pair}
use Rattle.dem_model.specs.declared.state.Held.{Held}
use Rattle.dem_model.specs.Step.{held_at, same_pair}
use Rattle.dem_model.specs.Pairs.{pair_cmp}
use Rattle.dem_list.specs.Ascending.{IsAscending}
use Rattle.dem_list.proofs.AscendingFacts.{pair_cmp-total, same_pair-equal}
use Rattle.dem_model.specs.Carry.{held_of, kept_of, carried}
use Rattle.dem_hist.specs.Inside.{AllBefore, IsReached, IsStretch}

-- a pair is the same as itself
pub same_pair-itself : (p : Pair) → same_pair p p ≡ true
unfolding same_pair
same_pair-itself p = grind (arith, nat_tests)

-- a pair that comes before another isn't the same
pub same_pair-before : (q p : Pair) → pair_cmp q p ≡ Less → same_pair q p ≡ false
unfolding same_pair
same_pair-before q p h = grind (arith, nat_tests)

-- nor is one that comes after it
pub same_pair-after : (q p : Pair) → pair_cmp p q ≡ Less → same_pair q p ≡ false
unfolding same_pair
same_pair-after q p h = grind (arith, nat_tests)

-- a pair that doesn't come before another, and isn't the same, comes after it
pub pair_cmp-after : (q p : Pair) → is_lt (pair_cmp q p) ≡ false → ((q.a == p.a) && (q.b == p.b)) ≡ false → pair_cmp p q ≡ Less
pair_cmp-after q p h k = grind (arith, nat_tests)

-- what is held of a pair is its own entry where it is the first
held_at-this : (e : Option Vec3) (q : Pair) (es : List Held) (p : Pair) → same_pair q p ≡ true → held_at es p ≡ None → held_at (cons_option (option_map (held_of q) e) es) p ≡ e
unfolding held_at
held_at-this None q es p h none = none
held_at-this (Some v) q es p h none = rw h refl

-- and what the rest holds of it where it isn't
held_at-other : (e : Option Vec3) (q : Pair) (es : List Held) (p : Pair) → same_pair q p ≡ false → held_at (cons_option (option_map (held_of q) e) es) p ≡ held_at es p
unfolding held_at
held_at-other None q es p h = refl
held_at-other (Some v) q es p h = rw h refl

-- what is held of a first pair and the rest
pub kept_of-cons : (q : Pair) (ps : List Pair) (e : Option Vec3) (es : List (Option Vec3)) → kept_of (q ∷ ps) (e ∷ es) ≡ cons_option (option_map (held_of q) e) (kept_of ps es)
unfolding kept_of
kept_of-cons q ps e es = refl

-- nothing is held of a pair that isn't in the list
pub held_at-absent : (ps : List Pair) (es : List (Option Vec3)) (p : Pair) → ((k : ℕ) (d : Pair) → k < length ps → same_pair (get_or ps k d) p ≡ false) → held_at (kept_of ps es) p ≡ None
held_at-absent [] es p h = unfold held_at kept_of in refl
held_at-absent (q ∷ ps) [] p h = unfold held_at kept_of in refl
held_at-absent (q ∷ ps) (e ∷ es) p h =
    let rest : held_at (kept_of ps es) p ≡ None = held_at-absent ps es p (λ k d l. h (suc k) d (omega arith)) in
    let other : held_at (cons_option (option_map (held_of q) e) (kept_of ps es)) p ≡ held_at (kept_of ps es) p = held_at-other e q (kept_of ps es) p (h 0 q (omega arith)) in
    ap (λ hs. held_at hs p) (kept_of-cons q ps e es) ∙ other ∙ rest

-- of a pair that stands at one place alone, the entry there is held
pub held_at-place : (ps : List Pair) (es : List (Option Vec3)) (i : ℕ) (p : Pair) → i < length ps → length es ≡ length ps → ((d : Pair) → same_pair (get_or ps i d) p ≡ true) → ((k : ℕ) (d : Pair) → k < length ps → k ≢ i → same_pair (get_or ps k d) p ≡ false) → held_at (kept_of ps es) p ≡ get_or es i None
held_at-place [] es i p lt same this others = let no : ⊥ = omega arith in absurd no
held_at-place (q ∷ ps) [] i p lt same this others = let no : ⊥ = omega arith in absurd no
held_at-place (q ∷ ps) (e ∷ es) zero p lt same this others =
    let rest : held_at (kept_of ps es) p ≡ None = held_at-absent ps es p (λ k d l. others (suc k) d (omega arith) (omega arith)) in
    let first : held_at (cons_option (option_map (held_of q) e) (kept_of ps es)) p ≡ e = held_at-this e q (kept_of ps es) p (this q) rest in
    ap (λ hs. held_at hs p) (kept_of-cons q ps e es) ∙ first
held_at-place (q ∷ ps) (e ∷ es) (suc i) p lt same this others =
    let rest : held_at (kept_of ps es) p ≡ get_or es i None = held_at-place ps es i p (omega arith) (omega arith) this (λ k d l n. others (suc k) d (omega arith) (omega arith)) in
    let other : held_at (cons_option (option_map (held_of q) e) (kept_of ps es)) p ≡ held_at (kept_of ps es) p = held_at-other e q (kept_of ps es) p (others 0 q (omega arith) (omega arith)) in
    ap (λ hs. held_at hs p) (kept_of-cons q ps e es) ∙ other ∙ rest

-- where the walk stands at the pair itself, its entry is held
pub entry-here : (ps : List Pair) (es : List (Option Vec3)) (i : ℕ) (p : Pair) → IsAscending ps → length es ≡ length ps → i < length ps → ((d : Pair) → get_or ps i d ≡ p) → held_at (kept_of ps es) p ≡ get_or es i None
entry-here ps es i p s same lt is = held_at-place ps es i p lt same (λ d. ap (λ q. same_pair q p) (is d) ∙ same_pair-itself p) (λ k d l n. by k d l n (cases_lt k i))
  where
    by : (k : ℕ) (d : Pair) → k < length ps → k ≢ i → (k < i) ⊎ (i ≤ k) → same_pair (get_or ps k d) p ≡ false
    by k d l n (inl b) = same_pair-before (get_or ps k d) p (let less : pair_cmp (get_or ps k d) (get_or ps i d) ≡ Less = Less-from_sorted {K = Pair} pair_cmp ps k i d s b lt in rw (is d) at less)
    by k d l n (inr b) = same_pair-after (get_or ps k d) p (let less : pair_cmp (get_or ps i d) (get_or ps k d) ≡ Less = Less-from_sorted {K = Pair} pair_cmp ps i k d s (omega arith) l in rw (is d) at less)

-- where it stands past the end or at another pair, nothing is
pub entry-nowhere : (ps : List Pair) (es : List (Option Vec3)) (i : ℕ) (p : Pair) → IsAscending ps → IsReached ps i p → ((d : Pair) → i < length ps → pair_cmp p (get_or ps i d) ≡ Less) → held_at (kept_of ps es) p ≡ None
entry-nowhere ps es i p s here past = held_at-absent ps es p (λ k d l. by k d l (cases_lt k i))
  where
    later : (k : ℕ) (d : Pair) → k < length ps → (i < k) ⊎ (k ≤ i) → i ≤ k → pair_cmp p (get_or ps k d) ≡ Less
    later k d l (inl b) le = pair_cmp-total.trans p (get_or ps i d) (get_or ps k d) (past d (omega arith)) (Less-from_sorted {K = Pair} pair_cmp ps i k d s b l)
    later k d l (inr b) le = let same : i ≡ k = omega arith in ap (λ n. pair_cmp p (get_or ps n d)) (sym same) ∙ past d (omega arith)

    by : (k : ℕ) (d : Pair) → k < length ps → (k < i) ⊎ (i ≤ k) → same_pair (get_or ps k d) p ≡ false
    by k d l (inl b) = same_pair-before (get_or ps k d) p (here.before k d (omega arith) b)
    by k d l (inr b) = same_pair-after (get_or ps k d) p (later k d l (cases_lt i k) b)

-- the places below one that the walk passes come before the pair too
pub AllBefore-more : (ps : List Pair) (i : ℕ) (p : Pair) → AllBefore ps i p → ((d : Pair) → pair_cmp (get_or ps i d) p ≡ Less) → AllBefore ps (i + 1) p
AllBefore-more ps i p before this = λ k d z l. by k d z l (cases_lt k i)
  where
    by : (k : ℕ) (d : Pair) → 0 ≤ k → k < i + 1 → (k < i) ⊎ (i ≤ k) → pair_cmp (get_or ps k d) p ≡ Less
    by k d z l (inl b) = before k d z b
    by k d z l (inr b) = let same : i ≡ k = omega arith in ap (λ n. pair_cmp (get_or ps n d) p) (sym same) ∙ this d

-- what comes before a pair comes before each later one
pub AllBefore-later : (ps : List Pair) (i : ℕ) (p q : Pair) → AllBefore ps i p → pair_cmp p q ≡ Less → AllBefore ps i q
AllBefore-later ps i p q before less = λ k d z l. pair_cmp-total.trans (get_or ps k d) p q (before k d z l) less

-- what comes before a pair comes before all later ones of an ascending list
pub AllBefore-all : (ps qs : List Pair) (i j : ℕ) (p : Pair) → IsAscending qs → slice_get qs j ≡ Some p → AllBefore ps i p → (m : ℕ) (d : Pair) → j ≤ m → m < length qs → AllBefore ps i (get_or qs m d)
AllBefore-all ps qs i j p s there before m d le lt = by (cases_lt j m)
  where
    is : get_or qs j d ≡ p
    is = get_or_from_slice_get qs j p d there

    by : (j < m) ⊎ (m ≤ j) → AllBefore ps i (get_or qs m d)
    by (inl l) = AllBefore-later ps i p (get_or qs m d) before (let less : pair_cmp (get_or qs j d) (get_or qs m d) ≡ Less = Less-from_sorted {K = Pair} pair_cmp qs j m d s l lt in rw (is) at less)
    by (inr l) = let same : j ≡ m = omega arith in subst (λ q. AllBefore ps i q) (sym is ∙ ap (λ n. get_or qs n d) same) before

-- behind a stretch of the same pairs the walk has passed these too
pub AllBefore-stretch : (ps qs : List Pair) (i j n : ℕ) → IsAscending qs → IsStretch ps i qs j n → ((m : ℕ) (d : Pair) → j ≤ m → m < length qs → AllBefore ps i (get_or qs m d)) → (m : ℕ) (d : Pair) → j + n ≤ m → m < length qs → AllBefore ps (i + n) (get_or qs m d)
AllBefore-stretch ps qs i j n s on before m d le lt = λ k e z l. by k e z l (cases_lt k i)
  where
    this : (k : ℕ) (e : Pair) → k < n → pair_cmp (get_or ps (i + k) e) (get_or qs m d) ≡ Less
    this k e l =
        let less : pair_cmp (get_or qs (j + k) e) (get_or qs m e) ≡ Less = Less-from_sorted {K = Pair} pair_cmp qs (j + k) m e s (omega arith) lt in
        ap₂ pair_cmp (on.same k e l) (get_or_default qs m d e lt) ∙ less

    by : (k : ℕ) (e : Pair) → 0 ≤ k → k < i + n → (k < i) ⊎ (i ≤ k) → pair_cmp (get_or ps k e) (get_or qs m d) ≡ Less
    by k e z l (inl b) = before m d (omega arith) lt k e z b
    by k e z l (inr b) = let place : i + (k - i) ≡ k = omega arith in ap (λ h. pair_cmp (get_or ps h e) (get_or qs m d)) (sym place) ∙ this (k - i) e (omega arith)

-- the pairs of a stretch, as a part of either list
pub stretch_pairs : (ps qs : List Pair) (i j n : ℕ) → IsStretch ps i qs j n → take n (drop i ps) ≡ take n (drop j qs)
stretch_pairs ps qs i j n on = same_lists (take n (drop i ps)) (take n (drop j qs)) (long ps i on.old_within ∙ sym (long qs j on.new_within)) (λ k d l. each k d (let is : length (take n (drop i ps)) ≡ n = long ps i on.old_within in omega (arith, l, is)))
  where
    long : (xs : List Pair) (i : ℕ) → i + n ≤ length xs → length (take n (drop i xs)) ≡ n
    long xs i fits = length-take-le n (drop i xs) (let left : length (drop i xs) ≡ length xs - i = length-drop i xs in omega (arith, left, fits))

    at : (xs : List Pair) (i k : ℕ) (d : Pair) → k < n → get_or (take n (drop i xs)) k d ≡ get_or xs (i + k) d
    at xs i k d l = get_or-take n (drop i xs) k d l ∙ get_or-drop i xs k d

    each : (k : ℕ) (d : Pair) → k < n → get_or (take n (drop i ps)) k d ≡ get_or (take n (drop j qs)) k d
    each k d l = at ps i k d l ∙ on.same k d l ∙ sym (at qs j k d l)

-- where the next pair of the new list doesn't begin a stretch, nothing is held of it
pub entry-none : (ps : List Pair) (es : List (Option Vec3)) (qs : List Pair) (i j : ℕ) (p : Pair) → IsAscending ps → IsReached ps i p → IsStretch ps i qs j 0 → slice_get qs j ≡ Some p → None ≡ held_at (kept_of ps es) p
entry-none ps es qs i j p s here on there = sym (entry-nowhere ps es i p s here past)
  where
    other : (d : Pair) → i < length ps → get_or ps i d ≡ p → ⊥
    other d lt is = on.ends d (omega arith) (let within : j < length qs = slice_get_within qs j p there in omega arith) (ap (λ k. get_or ps k d) (omega arith) ∙ is ∙ sym (get_or_from_slice_get qs j p d there) ∙ ap (λ k. get_or qs k d) (omega arith))

    past : (d : Pair) → i < length ps → pair_cmp p (get_or ps i d) ≡ Less
    past d lt = pair_cmp-after (get_or ps i d) p (here.after d lt) (false_from_ne_true _ (λ same. other d lt (same_pair-equal (get_or ps i d) p same)))

-- carried to its own list, each entry stays
pub carried-itself : (ps : List Pair) (es : List (Option Vec3)) → IsAscending ps → length es ≡ length ps → map (held_at (kept_of ps es)) ps ≡ es
carried-itself ps es s same = same_lists (map f ps) es (length-map ps f ∙ sym same) (λ k d l. each k d (let long : length (map f ps) ≡ length ps = length-map ps f in omega (arith, l, long)))
  where
    f : Pair → Option Vec3
    f = held_at (kept_of ps es)

    first : Pair
    first = record { a = 0; b = 0 }

    each : (k : ℕ) (d : Option Vec3) → k < length ps → get_or (map f ps) k d ≡ get_or es k d
    each k d l = get_or-map f ps k first d l ∙ entry-here ps es k (get_or ps k first) s same l (λ q. get_or_default ps k q first l) ∙ get_or_default es k None d (omega (arith, l, same))

-- some of a list, and then some of what is left
pub take-more_of : {X : Type 0} (j n : ℕ) (xs : List X) → take (j + n) xs ≡ take j xs ++ take n (drop j xs)
take-more_of {X = X} j n xs = sym (take-append-drop j (take (j + n) xs)) ∙ ap₂ (λ (ys zs : List X). ys ++ zs) (take-take j (j + n) xs (omega arith)) (drop-take j n xs)

-- the walk goes on with a stretch of the same pairs
pub carried-stretch : (ps : List Pair) (es xs : List (Option Vec3)) (new : List Pair) (i j n : ℕ) → IsAscending ps → length es ≡ length ps → IsStretch ps i new j n → xs ≡ map (held_at (kept_of ps es)) (take j new) → xs ++ slice_range es i (i + n) ≡ map (held_at (kept_of ps es)) (take (j + n) new)
carried-stretch ps es xs new i j n s same on filled =
    let f : Pair → Option Vec3 = held_at (kept_of ps es) in
    let count : i + n - i ≡ n = omega arith in
    let own : take n (drop i es) ≡ take n (drop i (map f ps)) = ap (λ ys. take n (drop i ys)) (sym (carried-itself ps es s same)) in
    let those : take n (drop i (map f ps)) ≡ map f (take n (drop i ps)) = ap (take n) (drop-map f i ps) ∙ take-map f n (drop i ps) in
    let here : take n (drop i es) ≡ map f (take n (drop j new)) = own ∙ those ∙ ap (map f) (stretch_pairs ps new i j n on) in
    ap (λ (k : ℕ). xs ++ take k (drop i es)) count ∙ ap₂ (λ (ys zs : List (Option Vec3)). ys ++ zs) filled here ∙ sym (map-append f (take j new) (take n (drop j new))) ∙ ap (map f) (sym (take-more_of j n new))

-- the walk goes on with the next pair of the new list
pub carried-more : (ps : List Pair) (es xs : List (Option Vec3)) (new : List Pair) (j : ℕ) (p : Pair) (e : Option Vec3) → xs ≡ map (held_at (kept_of ps es)) (take j new) → slice_get new j ≡ Some p → e ≡ held_at (kept_of ps es) p → xs ++ e ∷ [] ≡ map (held_at (kept_of ps es)) (take (j + 1) new)
carried-more ps es xs new j p e filled there is =
    let f = held_at (kept_of ps es) in
    let lt : j < length new = slice_get_within new j p there in
    let this : get_or new j p ≡ p = get_or_from_slice_get new j p p there in
    let more : take (j + 1) new ≡ take j new ++ p ∷ [] = rw (add-one) (take-suc new j p lt ∙ ap (λ q. take j new ++ q ∷ []) this) in
    rw (more) (ap₂ (λ (ys : List (Option Vec3)) (y : Option Vec3). ys ++ y ∷ []) filled is ∙ sym (map-append f (take j new) (p ∷ [])))

-- and ends with all of it
pub carried-all : (ps : List Pair) (es xs : List (Option Vec3)) (new : List Pair) (j : ℕ) → xs ≡ map (held_at (kept_of ps es)) (take j new) → length new ≤ j → xs ≡ carried ps es new
unfolding carried
carried-all ps es xs new j filled past = filled ∙ ap (map (held_at (kept_of ps es))) (take_all j new past)

-- there is an entry for each pair of the new list
pub length-carried : (ps : List Pair) (es : List (Option Vec3)) (new : List Pair) → length (carried ps es new) ≡ length new
unfolding carried
length-carried ps es new = length-map new (held_at (kept_of ps es))

-- the first elements and the one at the next place
pub taken-next : {X : Type 0} (xs : List X) (k : ℕ) (x : X) → slice_get xs k ≡ Some x → take (k + 1) xs ≡ take k xs ++ x ∷ []
taken-next xs k x there =
    let lt : k < length xs = slice_get_within xs k x there in
    rw (add-one) (take-suc xs k x lt ∙ ap (λ q. take k xs ++ q ∷ []) (get_or_from_slice_get xs k x x there))

-- carried to a list of the same pairs, each entry stays
pub carried-same : (ps : List Pair) (es : List (Option Vec3)) (new : List Pair) → IsAscending ps → length es ≡ length ps → ps ≡ new → es ≡ carried ps es new
unfolding carried
carried-same ps es new s same is = sym (carried-itself ps es s same) ∙ ap (map (held_at (kept_of ps es))) is
