-- The parts of a list: what each comes to, and that the sums of two parts, added, are those of both.
use Rattle.std.proofs.Common.{◌≡◌, ℕ, ◌+◌, ◌-◌, ◌<◌, ◌≤◌, zero-add, false, List, [], ◌∷◌, ◌++◌, length, get_or, take, drop, map, replicate, refl, sym, ap, ◌∙◌, subst, arith, inl, inr, Option, Some, None}
use Rattle.std.specs.Prelude.{◌==◌, ◌+ℤ◌, pos, All, fold, slice_get, slice_set}
use Rattle.std.specs.List.{cons_option}
use Rattle.std.specs.Option.{option_map}
use Rattle.std.proofs.lemmas.Bool.{cases_Bool}
use Rattle.std.proofs.lemmas.Int.{ints}
use Rattle.std.proofs.lemmas.List.{ext_get_or, map-append, take_all, take-take, drop-take, drop-drop, get_or-drop, length-take-le, length-drop, take-append-drop}
use Rattle.std.proofs.lemmas.List.Elements.{All-append, All-drop, All-take, filter_map-append}
use Rattle.std.proofs.lemmas.List.FromFn.{get_or-map-range_with_len}
use Rattle.std.proofs.lemmas.List.Sums.{fold-append}
use Rattle.std.proofs.lemmas.Option.{get_or_from_slice_get, slice_get-get_or, slice_get_within}
use Rattle.dem_num.specs.declared.vector.Vec3.{Vec3}
use Rattle.dem_num.specs.declared.vector.Wide3.{Wide3}
use Rattle.dem_num.specs.Vectors.{sum_of, opposed, no_vector}
use Rattle.dem_model.specs.SceneValue.{SceneValue}
use Rattle.dem_model.specs.Carry.{held_of, kept_of}
use Rattle.dem_model.specs.Counts.{pair_count}
use Rattle.dem_model.specs.Motion.{IsPair}
use Rattle.dem_model.specs.Pairs.{pair_of}
use Rattle.dem_model.specs.Ranges.{IsSmall}
use Rattle.dem_model.specs.Step.{Meeting, meeting, meetings, held_at, held_in, first_clump, is_second, no_load, load_plus, load_with, load_on, loads_of}
use Rattle.dem_model.specs.declared.law.Load.{Load}
use Rattle.dem_model.specs.declared.state.Body.{Body}
use Rattle.dem_model.specs.declared.state.Held.{Held}
use Rattle.dem_model.specs.declared.state.Pair.{Pair}
use Rattle.dem_model.proofs.CountFacts.{pair_count-append}
use Rattle.dem_model.proofs.LoadFacts.{length-loads_of}
use Rattle.dem_force.specs.Loads.{AreLoads}
use Rattle.dem_step.specs.Contacts.{ArePairs}
use Rattle.dem_step.specs.Inside.{loads_after, displacement_of, IsSmallMeeting, HaveMet}
use Rattle.dem_step.specs.Marks.{is_met, AreMarked}
use Rattle.dem_step.specs.Split.{pairs_between, both_loads}
use Rattle.dem_step.specs.declared.marks.Marks.{Marks}
use Rattle.dem_step.proofs.ListFacts.{meeting-none, pair_count-take}
use Rattle.dem_step.proofs.MetFacts.{HaveMet-none, HaveMet-more, loads-met-all}

-- ---- loads that are added

-- sums may be made in any order
sum-assoc : (a b c : Wide3) → sum_of (sum_of a b) c ≡ sum_of a (sum_of b c)
sum-assoc a b c =
    let x : (a.x +ℤ b.x) +ℤ c.x ≡ a.x +ℤ (b.x +ℤ c.x) = omega (arith, ints) in
    let y : (a.y +ℤ b.y) +ℤ c.y ≡ a.y +ℤ (b.y +ℤ c.y) = omega (arith, ints) in
    let z : (a.z +ℤ b.z) +ℤ c.z ≡ a.z +ℤ (b.z +ℤ c.z) = omega (arith, ints) in
    λ k. record { x = x k; y = y k; z = z k }

-- a load and what is added to it, after another load
plus-after : (w v : Load) (force torque : Wide3) → load_plus (both_loads w v) force torque ≡ both_loads w (load_plus v force torque)
plus-after w v force torque = λ k. record { force = sum-assoc w.force v.force force k; torque = sum-assoc w.torque v.torque torque k }

-- one more meeting after another load
with-after : (s : SceneValue) (c : ℕ) (w v : Load) (m : Meeting) → load_with s c (both_loads w v) m ≡ both_loads w (load_with s c v m)
unfolding load_with
with-after s c w v m =
    elim (cases_Bool (first_clump s m.pair == c)) [
      | inl e ↦ rw e (plus-after w v m.push.force m.push.torque_a)
      | inr e ↦ elim (cases_Bool (is_second s c m.pair)) [
        | inl f ↦ rw (e, f) (plus-after w v (opposed m.push.force) m.push.torque_b)
        | inr f ↦ rw (e, f) refl
      ]
    ]

-- some meetings after another load
fold-after : (s : SceneValue) (c : ℕ) (w v : Load) (ms : List Meeting) → fold (load_with s c) (both_loads w v) ms ≡ both_loads w (fold (load_with s c) v ms)
fold-after s c w v [] = refl
fold-after s c w v (m ∷ ms) = ap (λ x. fold (load_with s c) x ms) (with-after s c w v m) ∙ fold-after s c w (load_with s c v m) ms

-- a sum with nothing
sum-nothing : (a : Wide3) → sum_of a no_vector ≡ a
sum-nothing a =
    let x : a.x +ℤ pos 0 ≡ a.x = omega (arith, ints) in
    let y : a.y +ℤ pos 0 ≡ a.y = omega (arith, ints) in
    let z : a.z +ℤ pos 0 ≡ a.z = omega (arith, ints) in
    λ k. record { x = x k; y = y k; z = z k }

-- no load adds nothing
pub both-nothing : (w : Load) → both_loads w no_load ≡ w
both-nothing w = λ k. record { force = sum-nothing w.force k; torque = sum-nothing w.torque k }

-- what a clump feels of these meetings and those
load_on-append : (s : SceneValue) (c : ℕ) (ms ns : List Meeting) → load_on s (ms ++ ns) c ≡ both_loads (load_on s ms c) (load_on s ns c)
unfolding load_on
load_on-append s c ms ns =
    fold-append (load_with s c) no_load ms ns
    ∙ ap (λ w. fold (load_with s c) w ns) (sym (both-nothing (fold (load_with s c) no_load ms)))
    ∙ fold-after s c (fold (load_with s c) no_load ms) no_load ns

-- the load of a clump, by its number
load_at : (s : SceneValue) (ms : List Meeting) (c : ℕ) → c < length s.clumps → get_or (loads_of s ms) c no_load ≡ load_on s ms c
unfolding loads_of
load_at s ms c lt = get_or-map-range_with_len (load_on s ms) 0 (length s.clumps) c c no_load lt (zero-add c)

-- the sums over these meetings and those are their sums, added
loads_of-append : (s : SceneValue) (ms ns : List Meeting) (ws : List Load) → length ws ≡ length s.clumps →
    ((c : ℕ) → c < length s.clumps → get_or ws c no_load ≡ both_loads (get_or (loads_of s ms) c no_load) (get_or (loads_of s ns) c no_load)) →
    ws ≡ loads_of s (ms ++ ns)
loads_of-append s ms ns ws count each =
    ext_get_or no_load ws (loads_of s (ms ++ ns)) (count ∙ sym (length-loads_of s (ms ++ ns)))
    (λ c lt.
    let below : c < length s.clumps = omega (arith, lt, count) in
    each c below
    ∙ ap (λ w. both_loads w (get_or (loads_of s ns) c no_load)) (load_at s ms c below)
    ∙ ap (both_loads (load_on s ms c)) (load_at s ns c below)
    ∙ sym (load_on-append s c ms ns)
    ∙ sym (load_at s (ms ++ ns) c below))

-- ---- the pairs of a part

-- so many elements and the next ones
take-both : {X : Type 0} (n m : ℕ) (xs : List X) → take n xs ++ take m (drop n xs) ≡ take (n + m) xs
take-both n m xs =
    ap (λ ys. ys ++ take m (drop n xs)) (sym (take-take n (n + m) xs (omega arith)))
    ∙ ap (λ ys. take n (take (n + m) xs) ++ ys) (sym (drop-take n m xs))
    ∙ take-append-drop n (take (n + m) xs)

-- the pairs to a place between and those from there on
pub between-join : (from middle to : ℕ) (ps : List Pair) → from ≤ middle → middle ≤ to → pairs_between from middle ps ++ pairs_between middle to ps ≡ pairs_between from to ps
between-join from middle to ps le more =
    let there : middle ≡ from + (middle - from) = omega (arith, le) in
    let size : (middle - from) + (to - middle) ≡ to - from = omega (arith, le, more) in
    ap (λ n. take (middle - from) (drop from ps) ++ take (to - middle) (drop n ps)) there
    ∙ ap (λ qs. take (middle - from) (drop from ps) ++ take (to - middle) qs) (sym (drop-drop (middle - from) from ps))
    ∙ take-both (middle - from) (to - middle) (drop from ps)
    ∙ ap (λ n. take n (drop from ps)) size

-- all pairs
pub between-whole : (n : ℕ) (ps : List Pair) → n ≡ length ps → pairs_between 0 n ps ≡ ps
between-whole n ps e = take_all (n - 0) ps (omega (arith, e))

-- how many pairs a part has
pub length-between : (from to : ℕ) (ps : List Pair) → from ≤ to → to ≤ length ps → length (pairs_between from to ps) ≡ to - from
length-between from to ps order le = length-take-le (to - from) (drop from ps) (omega (arith, order, le, length-drop from ps))

-- no more pairs of a clump past a place than in all
few-past : (s : SceneValue) (c from : ℕ) (ps : List Pair) → pair_count s c (drop from ps) ≤ pair_count s c ps
few-past s c from ps =
    let split : pair_count s c (take from ps ++ drop from ps) ≡ pair_count s c (take from ps) + pair_count s c (drop from ps) = pair_count-append s c (take from ps) (drop from ps) in
    let whole : pair_count s c (take from ps ++ drop from ps) ≡ pair_count s c ps = ap (pair_count s c) (take-append-drop from ps) in
    omega arith

-- the pairs past a place are pairs, and few
pub pairs-past : (s : SceneValue) (from : ℕ) (ps : List Pair) → ArePairs s ps → ArePairs s (drop from ps)
pairs-past s from ps pairs = record {
  each = All-drop (IsPair s) from ps pairs.each;
  few = λ c. omega (arith, few-past s c from ps, pairs.few c);
}

-- the pairs of a part are pairs, and few
pub pairs-part : (s : SceneValue) (from to : ℕ) (ps : List Pair) → ArePairs s ps → ArePairs s (pairs_between from to ps)
pairs-part s from to ps pairs =
    let past : ArePairs s (drop from ps) = pairs-past s from ps pairs in
    record {
      each = All-take (IsPair s) (to - from) (drop from ps) past.each;
      few = λ c. omega (arith, pair_count-take s c (to - from) (drop from ps), past.few c);
    }

-- a pair of the list is one of those past a place
pub read-past : (ps : List Pair) (from i : ℕ) (p : Pair) → from ≤ i → slice_get ps i ≡ Some p → slice_get (drop from ps) (i - from) ≡ Some p
read-past ps from i p le there =
    let lt : i < length ps = slice_get_within ps i p there in
    let place : from + (i - from) ≡ i = omega (arith, le) in
    slice_get-get_or (drop from ps) (i - from) p (omega (arith, le, lt, length-drop from ps))
    ∙ ap Some (get_or-drop from ps (i - from) p ∙ ap (λ k. get_or ps k p) place ∙ get_or_from_slice_get ps i p p there)

-- ---- what a part comes to

-- no pair has met yet
pub between-none : (s : SceneValue) (bodies : List Body) (centers : List Vec3) (held : List Held) (from n : ℕ) (ps : List Pair) (loads : List Load) (fresh : List (Option Vec3)) →
    loads ≡ replicate n no_load → n ≡ length s.clumps → HaveMet s bodies centers held (pairs_between from from ps) loads fresh
between-none s bodies centers held from n ps loads fresh nothing count =
    let e : 0 ≡ from - from = omega arith in
    subst (λ k. HaveMet s bodies centers held (take k (drop from ps)) loads fresh) e (HaveMet-none s bodies centers held n loads fresh nothing count)

-- one more pair of a part has met
pub between-more : (s : SceneValue) (bodies : List Body) (centers : List Vec3) (held : List Held) (ps : List Pair) (from i : ℕ) (p : Pair) (h : Option Vec3)
    (old new : List Load) (fresh : List (Option Vec3)) (e : Option Vec3) →
    from ≤ i → slice_get ps i ≡ Some p → held_at held p ≡ h → i - from < length fresh →
    new ≡ loads_after s old (meeting s bodies centers p h) → e ≡ displacement_of (meeting s bodies centers p h) → IsSmallMeeting (meeting s bodies centers p h) →
    HaveMet s bodies centers held (pairs_between from i ps) old fresh → HaveMet s bodies centers held (pairs_between from (i + 1) ps) new (slice_set fresh (i - from) e)
between-more s bodies centers held ps from i p h old new fresh e le there is room loads entry small met =
    let next : (i - from) + 1 ≡ (i + 1) - from = omega (arith, le) in
    subst (λ k. HaveMet s bodies centers held (take k (drop from ps)) new (slice_set fresh (i - from) e)) next
    (HaveMet-more s bodies centers held (drop from ps) (i - from) p h old new fresh e (read-past ps from i p le there) is room loads entry small met)

-- one more pair of a part has met, which isn't looked at
pub between-unmet : (s : SceneValue) (bodies : List Body) (centers : List Vec3) (held : List Held) (ps : List Pair) (marks : Marks) (from i : ℕ) (loads : List Load) (fresh : List (Option Vec3)) →
    AreMarked s centers ps marks → is_met marks i ≡ false → from ≤ i → i < length ps → i - from < length fresh →
    HaveMet s bodies centers held (pairs_between from i ps) loads fresh → HaveMet s bodies centers held (pairs_between from (i + 1) ps) loads (slice_set fresh (i - from) None)
between-unmet s bodies centers held ps marks from i loads fresh marked unmet le lt room met =
    let there : slice_get ps i ≡ Some (get_or ps i (pair_of 0 0)) = slice_get-get_or ps i (pair_of 0 0) lt in
    let none : meeting s bodies centers (get_or ps i (pair_of 0 0)) (held_at held (get_or ps i (pair_of 0 0))) ≡ None =
    meeting-none s bodies centers (get_or ps i (pair_of 0 0)) (held_at held (get_or ps i (pair_of 0 0))) (marked i (get_or ps i (pair_of 0 0)) there unmet) in
    between-more s bodies centers held ps from i (get_or ps i (pair_of 0 0)) (held_at held (get_or ps i (pair_of 0 0))) loads loads fresh None le there refl room
    (ap (loads_after s loads) (sym none)) (ap displacement_of (sym none)) (subst IsSmallMeeting (sym none) tt) met

-- the loads of a part are within the bounds
pub loads-between : (s : SceneValue) (bodies : List Body) (centers : List Vec3) (held : List Held) (ps : List Pair) (from to : ℕ) (loads : List Load) (fresh : List (Option Vec3)) →
    ArePairs s ps → HaveMet s bodies centers held (pairs_between from to ps) loads fresh → AreLoads s loads
loads-between s bodies centers held ps from to loads fresh pairs met =
    loads-met-all s bodies centers held (pairs_between from to ps) loads fresh (pairs-part s from to ps pairs) met

-- what is put before a list is before what follows it
cons_option-append : {X : Type 0} (o : Option X) (xs ys : List X) → cons_option o (xs ++ ys) ≡ cons_option o xs ++ ys
cons_option-append None xs ys = refl
cons_option-append (Some x) xs ys = refl

-- what is kept of two parts
kept_of-append : (ps qs : List Pair) (es fs : List (Option Vec3)) → length ps ≡ length es → kept_of (ps ++ qs) (es ++ fs) ≡ kept_of ps es ++ kept_of qs fs
unfolding kept_of
kept_of-append [] qs [] fs n = refl
kept_of-append [] qs (e ∷ es) fs n = absurd (omega arith)
kept_of-append (p ∷ ps) qs [] fs n = absurd (omega arith)
kept_of-append (p ∷ ps) qs (e ∷ es) fs n =
    ap (cons_option (option_map (held_of p) e)) (kept_of-append ps qs es fs (omega arith))
    ∙ cons_option-append (option_map (held_of p) e) (kept_of ps es) (kept_of qs fs)

-- the meetings of two parts
meetings-append : (s : SceneValue) (bodies : List Body) (centers : List Vec3) (held : List Held) (ps qs : List Pair) →
    meetings s bodies centers held (ps ++ qs) ≡ meetings s bodies centers held ps ++ meetings s bodies centers held qs
unfolding meetings
meetings-append s bodies centers held ps qs = filter_map-append (λ (p : Pair). meeting s bodies centers p (held_at held p)) ps qs

-- two parts have met, where their loads are added
pub HaveMet-join : (s : SceneValue) (bodies : List Body) (centers : List Vec3) (held : List Held) (ps qs : List Pair) (ws vs us : List Load) (es fs : List (Option Vec3)) →
    length ps ≡ length es → length us ≡ length s.clumps →
    ((c : ℕ) → c < length s.clumps → get_or us c no_load ≡ both_loads (get_or ws c no_load) (get_or vs c no_load)) →
    HaveMet s bodies centers held ps ws es → HaveMet s bodies centers held qs vs fs → HaveMet s bodies centers held (ps ++ qs) us (es ++ fs)
HaveMet-join s bodies centers held ps qs ws vs us es fs size count each first second =
    let both : meetings s bodies centers held ps ++ meetings s bodies centers held qs ≡ meetings s bodies centers held (ps ++ qs) = sym (meetings-append s bodies centers held ps qs) in
    record {
      sums =
          loads_of-append s (meetings s bodies centers held ps) (meetings s bodies centers held qs) us count
          (λ c lt.
          each c lt
          ∙ ap (λ xs. both_loads (get_or xs c no_load) (get_or vs c no_load)) first.sums
          ∙ ap (λ xs. both_loads (get_or (loads_of s (meetings s bodies centers held ps)) c no_load) (get_or xs c no_load)) second.sums)
          ∙ ap (loads_of s) both;
      kept =
          kept_of-append ps qs es fs size
          ∙ ap (λ xs. xs ++ kept_of qs fs) first.kept
          ∙ ap (λ xs. map held_in (meetings s bodies centers held ps) ++ xs) second.kept
          ∙ sym (map-append held_in (meetings s bodies centers held ps) (meetings s bodies centers held qs))
          ∙ ap (map held_in) both;
      small = subst (λ xs. All (λ (m : Meeting). IsSmall m.push) xs) both
          (All-append (λ (m : Meeting). IsSmall m.push) (meetings s bodies centers held ps) (meetings s bodies centers held qs) first.small second.small);
    }
