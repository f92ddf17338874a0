-- What the pairs of one list came to, handed on to the next list at the same state.
use Rattle.std.proofs.Common.{◌≡◌, ℕ, zero, suc, ◌+◌, ◌<◌, ◌≤◌, arith, Bool, true, false, List, [], ◌∷◌, ◌++◌, length, get_or, take, drop, map, inl, inr, refl, sym, ap, ◌∙◌, subst, Option, Some, None}
use Rattle.std.specs.Prelude.{All, IfSome, MatchOption, filter, fold, is_some, not, if◌then◌else◌, slice_get, slice_set, ◌==◌, ◌+ℤ◌}
use Rattle.std.specs.List.{Contains, cons_option, filter_map, range_with_len}
use Rattle.std.specs.Option.{option_map}
use Rattle.std.proofs.lemmas.Bool.{cases_Bool}
use Rattle.std.proofs.lemmas.Int.{ints}
use Rattle.std.proofs.lemmas.List.{append-nil, append_assoc, take-append-drop, length-take-le, get_or-take}
use Rattle.std.proofs.lemmas.List.Elements.{All-head, All-tail, All-filter, All-nil, All-contains_itself, Contains-get_or, filter-append, filter_passes, filter_map-append}
use Rattle.std.proofs.lemmas.List.Sums.{fold-append}
use Rattle.std.proofs.lemmas.Option.{get_or_from_slice_get, slice_get_within}
use Rattle.dem_num.specs.declared.vector.Vec3.{Vec3}
use Rattle.dem_num.specs.declared.vector.Wide3.{Wide3}
use Rattle.dem_num.specs.Vectors.{sum_of, opposed}
use Rattle.dem_model.specs.SceneValue.{SceneValue}
use Rattle.dem_model.specs.Carry.{held_of, kept_of, Agrees}
use Rattle.dem_model.specs.Centers.{centers_of, touch_of}
use Rattle.dem_model.specs.Counts.{pair_count, most_pairs}
use Rattle.dem_model.specs.Near.{near, near_of, Covers}
use Rattle.dem_model.specs.Pairs.{all_pairs}
use Rattle.dem_model.specs.Ranges.{IsSmall}
use Rattle.dem_model.specs.Sound.{IsSound}
use Rattle.dem_model.specs.Step.{Meeting, meeting, meetings, held_at, held_in, no_load, load_plus, first_clump, is_second, load_with, load_on, loads_of}
use Rattle.dem_model.specs.declared.law.Load.{Load}
use Rattle.dem_model.specs.declared.state.Body.{Body}
use Rattle.dem_model.specs.declared.state.Held.{Held}
use Rattle.dem_model.specs.declared.state.Pair.{Pair}
use Rattle.dem_model.specs.declared.state.State.{State}
use Rattle.dem_model.proofs.CountFacts.{pair_count-append, pair_count-all}
use Rattle.dem_force.specs.Loads.{AreLoads}
use Rattle.dem_hist.proofs.CarryFacts.{entry-here}
use Rattle.dem_list.specs.Ascending.{IsAscending}
use Rattle.dem_plain.proofs.HoldsFacts.{meetings-push, sums-within}
use Rattle.dem_step.specs.Ahead.{loads_past, entry_past}
use Rattle.dem_step.specs.Inside.{loads_after, displacement_of, IsSmallMeeting, HaveMet}
use Rattle.dem_step.proofs.RoomFacts.{all-read, take-next}
use Rattle.dem_step.proofs.ListFacts.{entry-held, held_at-mapped, kept_of-take, meeting-none, meetings-agree, near-contains, none_there}
use Rattle.dem_step.proofs.MetFacts.{HaveMet-more, loads_after-is, small-more}

-- ---- sums in another order

-- two addends in the other order
sum-swap : (a b c : Wide3) → sum_of (sum_of a b) c ≡ sum_of (sum_of a c) b
sum-swap a b c =
    let x : (a.x +ℤ b.x) +ℤ c.x ≡ (a.x +ℤ c.x) +ℤ b.x = omega (arith, ints) in
    let y : (a.y +ℤ b.y) +ℤ c.y ≡ (a.y +ℤ c.y) +ℤ b.y = omega (arith, ints) in
    let z : (a.z +ℤ b.z) +ℤ c.z ≡ (a.z +ℤ c.z) +ℤ b.z = omega (arith, ints) in
    λ i. record { x = x i; y = y i; z = z i }

plus-swap : (w : Load) (f t g u : Wide3) → load_plus (load_plus w f t) g u ≡ load_plus (load_plus w g u) f t
plus-swap w f t g u =
    let force : sum_of (sum_of w.force f) g ≡ sum_of (sum_of w.force g) f = sum-swap w.force f g in
    let torque : sum_of (sum_of w.torque t) u ≡ sum_of (sum_of w.torque u) t = sum-swap w.torque t u in
    λ i. record { force = force i; torque = torque i }

-- what a meeting adds to the load of a clump, if the clump has a part in it
abbrev part_of : SceneValue → ℕ → Meeting → Option Load
part_of s c m =
    if first_clump s m.pair == c then Some (record { force = m.push.force; torque = m.push.torque_a })
    else (if is_second s c m.pair then Some (record { force = opposed m.push.force; torque = m.push.torque_b }) else None)

abbrev grown : Load → Option Load → Load
grown w None = w
grown w (Some p) = load_plus w p.force p.torque

load_with-is : (s : SceneValue) (c : ℕ) (w : Load) (m : Meeting) → load_with s c w m ≡ grown w (part_of s c m)
unfolding load_with
load_with-is s c w m =
    elim (cases_Bool (first_clump s m.pair == c)) [
      | inl e ↦ rw e refl
      | inr e ↦ elim (cases_Bool (is_second s c m.pair)) [
        | inl f ↦ rw (e, f) refl
        | inr f ↦ rw (e, f) refl
      ]
    ]

grown-swap : (w : Load) (p q : Option Load) → grown (grown w p) q ≡ grown (grown w q) p
grown-swap w None q = refl
grown-swap w (Some p) None = refl
grown-swap w (Some p) (Some q) = plus-swap w p.force p.torque q.force q.torque

-- two meetings in the other order
load_with-swap : (s : SceneValue) (c : ℕ) (w : Load) (m n : Meeting) → load_with s c (load_with s c w m) n ≡ load_with s c (load_with s c w n) m
load_with-swap s c w m n =
    load_with-is s c (load_with s c w m) n
    ∙ ap (λ v. grown v (part_of s c n)) (load_with-is s c w m)
    ∙ grown-swap w (part_of s c m) (part_of s c n)
    ∙ ap (λ v. grown v (part_of s c m)) (sym (load_with-is s c w n))
    ∙ sym (load_with-is s c (load_with s c w n) m)

-- a meeting before others or after them
fold-late : (s : SceneValue) (c : ℕ) (w : Load) (m : Meeting) (ms : List Meeting) → fold (load_with s c) (load_with s c w m) ms ≡ load_with s c (fold (load_with s c) w ms) m
fold-late s c w m [] = refl
fold-late s c w m (n ∷ ms) = ap (λ v. fold (load_with s c) v ms) (load_with-swap s c w m n) ∙ fold-late s c (load_with s c w n) m ms

-- the sums over some meetings are those over others and then the rest of them
abbrev AddsUp : SceneValue → ℕ → List Meeting → List Meeting → List Meeting → Type 0
AddsUp s c whole part rest = (w : Load) → fold (load_with s c) w whole ≡ fold (load_with s c) (fold (load_with s c) w part) rest

adds-part : (s : SceneValue) (c : ℕ) (o : Option Meeting) (whole part rest : List Meeting) → AddsUp s c whole part rest → AddsUp s c (cons_option o whole) (cons_option o part) rest
adds-part s c None whole part rest h = h
adds-part s c (Some m) whole part rest h = λ w. h (load_with s c w m)

adds-rest : (s : SceneValue) (c : ℕ) (o : Option Meeting) (whole part rest : List Meeting) → AddsUp s c whole part rest → AddsUp s c (cons_option o whole) part (cons_option o rest)
adds-rest s c None whole part rest h = h
adds-rest s c (Some m) whole part rest h = λ w. h (load_with s c w m) ∙ ap (λ v. fold (load_with s c) v rest) (fold-late s c w m part)

-- the pairs of a list that don't pass a test: those that are new in it
abbrev pub new_in : (Pair → Bool) → List Pair → List Pair
new_in was ps = filter (λ p. not (was p)) ps

-- what is in the old list alone gives nothing
abbrev GoesWith : (Pair → Option Meeting) → (Pair → Bool) → (Pair → Bool) → Pair → Type 0
GoesWith f was will p = will p ≡ false → f p ≡ None

-- the meetings of a list add up from those of another and of what is new in it
adds-up : (s : SceneValue) (c : ℕ) (f : Pair → Option Meeting) (was will : Pair → Bool) (ps : List Pair) → All (GoesWith f was will) ps →
    AddsUp s c (filter_map f (filter will ps)) (filter_map f (filter was ps)) (filter_map f (new_in was (filter will ps)))
adds-up s c f was will [] gone = λ w. refl
adds-up s c f was will (p ∷ ps) gone =
    let rest : AddsUp s c (filter_map f (filter will ps)) (filter_map f (filter was ps)) (filter_map f (new_in was (filter will ps))) = adds-up s c f was will ps (All-tail (GoesWith f was will) p ps gone) in
    elim (cases_Bool (will p)) [
      | inl t ↦ elim (cases_Bool (was p)) [
        | inl u ↦ rw (t, u) (adds-part s c (f p) (filter_map f (filter will ps)) (filter_map f (filter was ps)) (filter_map f (new_in was (filter will ps))) rest)
        | inr u ↦ rw (t, u) (adds-rest s c (f p) (filter_map f (filter will ps)) (filter_map f (filter was ps)) (filter_map f (new_in was (filter will ps))) rest)
      ]
      | inr t ↦
          let none : f p ≡ None = All-head (GoesWith f was will) p ps gone t in
          elim (cases_Bool (was p)) [
            | inl u ↦ rw (t, u, none) rest
            | inr u ↦ rw (t, u) rest
          ]
    ]

-- and so do the loads of all clumps
loads-add-up : (s : SceneValue) (whole part rest : List Meeting) → ((c : ℕ) → AddsUp s c whole part rest) → loads_of s whole ≡ loads_of s (part ++ rest)
unfolding loads_of load_on
loads-add-up s whole part rest h =
    let each : (c : ℕ) → fold (load_with s c) no_load whole ≡ fold (load_with s c) no_load (part ++ rest) = λ c. h c no_load ∙ sym (fold-append (load_with s c) no_load part rest) in
    λ i. map (λ c. each c i) (range_with_len 0 (length s.clumps))

-- ---- how many pairs

-- the old list and what is new in the next are pairs of all pairs, each once
count-parted : (s : SceneValue) (c : ℕ) (was will : Pair → Bool) (ps : List Pair) → pair_count s c (filter was ps) + pair_count s c (new_in was (filter will ps)) ≤ pair_count s c ps
unfolding pair_count
count-parted s c was will [] = omega arith
count-parted s c was will (p ∷ ps) =
    let rest : pair_count s c (filter was ps) + pair_count s c (new_in was (filter will ps)) ≤ pair_count s c ps = count-parted s c was will ps in
    elim (cases_Bool (will p)) [
      | inl t ↦ elim (cases_Bool (was p)) [
        | inl u ↦ rw (t, u) (omega (arith, rest))
        | inr u ↦ rw (t, u) (omega (arith, rest))
      ]
      | inr t ↦ elim (cases_Bool (was p)) [
        | inl u ↦ rw (t, u) (omega (arith, rest))
        | inr u ↦ rw (t, u) (omega (arith, rest))
      ]
    ]

-- no more among the first of the new list
count-first : (s : SceneValue) (c i : ℕ) (q : Pair → Bool) (ps : List Pair) → pair_count s c (filter q (take i ps)) ≤ pair_count s c (filter q ps)
count-first s c i q ps =
    let whole : filter q (take i ps) ++ filter q (drop i ps) ≡ filter q ps = sym (filter-append q (take i ps) (drop i ps)) ∙ ap (filter q) (take-append-drop i ps) in
    let count : pair_count s c (filter q (take i ps)) + pair_count s c (filter q (drop i ps)) ≡ pair_count s c (filter q ps) =
    sym (pair_count-append s c (filter q (take i ps)) (filter q (drop i ps))) ∙ ap (pair_count s c) whole in
    omega arith

-- no clump has too many pairs in the old list and what is new so far
few-parted : (s : SceneValue) (c i : ℕ) (was will : Pair → Bool) → IsSound s → pair_count s c (filter was (all_pairs s) ++ new_in was (take i (filter will (all_pairs s)))) ≤ most_pairs
few-parted s c i was will sound =
    let joined = pair_count-append s c (filter was (all_pairs s)) (new_in was (take i (filter will (all_pairs s)))) in
    omega (arith, joined, count-first s c i (λ p. not (was p)) (filter will (all_pairs s)), count-parted s c was will (all_pairs s), pair_count-all s c sound)

-- ---- the entries of the old list

-- what meets leaves the entries of its pairs
kept-mapped : (s : SceneValue) (bodies : List Body) (centers : List Vec3) (held : List Held) (ps : List Pair) →
    map held_in (meetings s bodies centers held ps) ≡ kept_of ps (map (λ p. displacement_of (meeting s bodies centers p (held_at held p))) ps)
unfolding meetings kept_of
kept-mapped s bodies centers held [] = refl
kept-mapped s bodies centers held (p ∷ ps) =
    mapped (meeting s bodies centers p (held_at held p)) (meetings s bodies centers held ps)
    ∙ ap (λ o. cons_option o (map held_in (meetings s bodies centers held ps))) (sym (entry-held s bodies centers p (held_at held p)))
    ∙ ap (cons_option (option_map (held_of p) (displacement_of (meeting s bodies centers p (held_at held p))))) (kept-mapped s bodies centers held ps)
  where
    mapped : (o : Option Meeting) (ms : List Meeting) → map held_in (cons_option o ms) ≡ cons_option (option_map held_in o) (map held_in ms)
    mapped None ms = refl
    mapped (Some m) ms = refl

-- the entry at a place of a list that has met is what the pair there leaves
entry-met : (s : SceneValue) (bodies : List Body) (centers : List Vec3) (held : List Held) (ps : List Pair) (loads : List Load) (fresh : List (Option Vec3)) (k : ℕ) (p : Pair) →
    IsAscending ps → length ps ≤ length fresh → HaveMet s bodies centers held ps loads fresh → slice_get ps k ≡ Some p →
    get_or fresh k None ≡ displacement_of (meeting s bodies centers p (held_at held p))
entry-met s bodies centers held ps loads fresh k p ascends room met there =
    let lt : k < length ps = slice_get_within ps k p there in
    let here : get_or ps k p ≡ p = get_or_from_slice_get ps k p p there in
    let listed : Contains ps p = subst (Contains ps) here (Contains-get_or ps k p lt) in
    sym (get_or-take (length ps) fresh k None lt)
    ∙ sym (entry-here ps (take (length ps) fresh) k p ascends (length-take-le (length ps) fresh room) lt (λ d. get_or_from_slice_get ps k p d there))
    ∙ ap (λ hs. held_at hs p) (kept_of-take ps fresh ∙ met.kept ∙ kept-mapped s bodies centers held ps)
    ∙ held_at-mapped (λ q. displacement_of (meeting s bodies centers q (held_at held q))) ps p listed

-- the first of some meetings is small, and the others are
small-head : (o : Option Meeting) (ms : List Meeting) → All (λ (m : Meeting). IsSmall m.push) (cons_option o ms) → IsSmallMeeting o × All (λ (m : Meeting). IsSmall m.push) ms
small-head None ms all = (tt, all)
small-head (Some m) ms all = (All-head (λ (x : Meeting). IsSmall x.push) m ms all, All-tail (λ (x : Meeting). IsSmall x.push) m ms all)

-- the push of a pair of a list that has met is small
small-at : (f : Pair → Option Meeting) (ps : List Pair) (p : Pair) → All (λ (m : Meeting). IsSmall m.push) (filter_map f ps) → Contains ps p → IsSmallMeeting (f p)
small-at f [] p all there = absurd (omega (arith, there.1))
small-at f (q ∷ ps) p all (zero, l, e) = subst (λ x. IsSmallMeeting (f x)) e (small-head (f q) (filter_map f ps) all).0
small-at f (q ∷ ps) p all (suc k, l, e) = small-at f ps p (small-head (f q) (filter_map f ps) all).1 (k, omega arith, e)

small-met : (s : SceneValue) (bodies : List Body) (centers : List Vec3) (held : List Held) (ps : List Pair) (p : Pair) → All (λ (m : Meeting). IsSmall m.push) (meetings s bodies centers held ps) →
    Contains ps p → IsSmallMeeting (meeting s bodies centers p (held_at held p))
unfolding meetings
small-met s bodies centers held ps p all there = small-at (λ q. meeting s bodies centers q (held_at held q)) ps p all there

-- ---- the walk of the new list

-- the loads are the sums over the old list and what is new so far, and the entries are those of the new list so far
pub record IsHandedOn (s : SceneValue) (bodies : List Body) (centers : List Vec3) (held : List Held) (old : List Pair) (was : Pair → Bool) (now : List Pair) (loads : List Load) (fresh : List (Option Vec3)) : Type 0 where
  pub sums : loads ≡ loads_of s (meetings s bodies centers held (old ++ new_in was now))
  pub all_small : All (λ (m : Meeting). IsSmall m.push) (meetings s bodies centers held (old ++ new_in was now))
  pub kept : kept_of now fresh ≡ map held_in (meetings s bodies centers held now)
  pub small : All (λ (m : Meeting). IsSmall m.push) (meetings s bodies centers held now)

-- at first
pub handed-none : (s : SceneValue) (bodies : List Body) (centers : List Vec3) (held : List Held) (old : List Pair) (was : Pair → Bool) (loads : List Load) (before fresh : List (Option Vec3)) →
    HaveMet s bodies centers held old loads before → IsHandedOn s bodies centers held old was [] loads fresh
unfolding meetings kept_of
handed-none s bodies centers held old was loads before fresh met =
    let same : meetings s bodies centers held old ≡ meetings s bodies centers held (old ++ []) = ap (meetings s bodies centers held) (sym (append-nil old)) in
    record {
      sums = met.sums ∙ ap (loads_of s) same;
      all_small = subst (λ ms. All (λ (m : Meeting). IsSmall m.push) ms) same met.small;
      kept = refl;
      small = All-nil (λ (m : Meeting). IsSmall m.push);
    }

-- one more pair of the new list, which is in the old one
new_in-same : (was : Pair → Bool) (now : List Pair) (p : Pair) → was p ≡ true → new_in was (now ++ p ∷ []) ≡ new_in was now
new_in-same was now p is = filter-append (λ q. not (was q)) now (p ∷ []) ∙ rw is (append-nil (new_in was now))

-- or isn't
new_in-more : (was : Pair → Bool) (now : List Pair) (p : Pair) → was p ≡ false → new_in was (now ++ p ∷ []) ≡ new_in was now ++ p ∷ []
new_in-more was now p isnt = filter-append (λ q. not (was q)) now (p ∷ []) ∙ rw isnt refl

-- the entries of one more pair
record HasEntries (s : SceneValue) (bodies : List Body) (centers : List Vec3) (held : List Held) (now : List Pair) (fresh : List (Option Vec3)) : Type 0 where
  kept : kept_of now fresh ≡ map held_in (meetings s bodies centers held now)
  small : All (λ (m : Meeting). IsSmall m.push) (meetings s bodies centers held now)

entries-more : (s : SceneValue) (bodies : List Body) (centers : List Vec3) (held : List Held) (ps : List Pair) (i : ℕ) (p : Pair) (fresh : List (Option Vec3)) (e : Option Vec3) →
    slice_get ps i ≡ Some p → i < length fresh → e ≡ displacement_of (meeting s bodies centers p (held_at held p)) → IsSmallMeeting (meeting s bodies centers p (held_at held p)) →
    HasEntries s bodies centers held (take i ps) fresh → HasEntries s bodies centers held (take (i + 1) ps) (slice_set fresh i e)
entries-more s bodies centers held ps i p fresh e there room entry small h =
    let old : List Load = loads_of s (meetings s bodies centers held (take i ps)) in
    let more : HaveMet s bodies centers held (take (i + 1) ps) (loads_after s old (meeting s bodies centers p (held_at held p))) (slice_set fresh i e) =
    HaveMet-more s bodies centers held ps i p (held_at held p) old (loads_after s old (meeting s bodies centers p (held_at held p))) fresh e there refl room refl entry small
    (record { sums = refl; kept = h.kept; small = h.small }) in
    record { kept = more.kept; small = more.small }

-- a pair that the old list has
handed-old : (s : SceneValue) (bodies : List Body) (centers : List Vec3) (held : List Held) (old : List Pair) (was : Pair → Bool) (new : List Pair) (i : ℕ) (p : Pair)
    (loads : List Load) (fresh : List (Option Vec3)) (e : Option Vec3) →
    slice_get new i ≡ Some p → i < length fresh → was p ≡ true → e ≡ displacement_of (meeting s bodies centers p (held_at held p)) → IsSmallMeeting (meeting s bodies centers p (held_at held p)) →
    IsHandedOn s bodies centers held old was (take i new) loads fresh → IsHandedOn s bodies centers held old was (take (i + 1) new) loads (slice_set fresh i e)
handed-old s bodies centers held old was new i p loads fresh e there room listed entry small h =
    let same : meetings s bodies centers held (old ++ new_in was (take i new)) ≡ meetings s bodies centers held (old ++ new_in was (take (i + 1) new)) =
    ap (λ qs. meetings s bodies centers held (old ++ qs)) (sym (ap (new_in was) (take-next new i p there) ∙ new_in-same was (take i new) p listed)) in
    let more : HasEntries s bodies centers held (take (i + 1) new) (slice_set fresh i e) =
    entries-more s bodies centers held new i p fresh e there room entry small (record { kept = h.kept; small = h.small }) in
    record {
      sums = h.sums ∙ ap (loads_of s) same;
      all_small = subst (λ ms. All (λ (m : Meeting). IsSmall m.push) ms) same h.all_small;
      kept = more.kept;
      small = more.small;
    }

-- a pair that it doesn't have
handed-new : (s : SceneValue) (bodies : List Body) (centers : List Vec3) (held : List Held) (old : List Pair) (was : Pair → Bool) (new : List Pair) (i : ℕ) (p : Pair)
    (loads next : List Load) (fresh : List (Option Vec3)) (e : Option Vec3) →
    slice_get new i ≡ Some p → i < length fresh → was p ≡ false → next ≡ loads_after s loads (meeting s bodies centers p (held_at held p)) →
    e ≡ displacement_of (meeting s bodies centers p (held_at held p)) → IsSmallMeeting (meeting s bodies centers p (held_at held p)) →
    IsHandedOn s bodies centers held old was (take i new) loads fresh → IsHandedOn s bodies centers held old was (take (i + 1) new) next (slice_set fresh i e)
handed-new s bodies centers held old was new i p loads next fresh e there room unlisted grows entry small h =
    let more : meetings s bodies centers held (old ++ new_in was (take i new)) ++ cons_option (meeting s bodies centers p (held_at held p)) [] ≡ meetings s bodies centers held (old ++ new_in was (take (i + 1) new)) =
    sym (meetings-push s bodies centers held (old ++ new_in was (take i new)) p)
    ∙ ap (meetings s bodies centers held) (append_assoc old (new_in was (take i new)) (p ∷ []) ∙ ap (λ qs. old ++ qs) (sym (ap (new_in was) (take-next new i p there) ∙ new_in-more was (take i new) p unlisted))) in
    let entries : HasEntries s bodies centers held (take (i + 1) new) (slice_set fresh i e) =
    entries-more s bodies centers held new i p fresh e there room entry small (record { kept = h.kept; small = h.small }) in
    record {
      sums = grows
          ∙ ap (λ ws. loads_after s ws (meeting s bodies centers p (held_at held p))) h.sums
          ∙ loads_after-is s (meetings s bodies centers held (old ++ new_in was (take i new))) (meeting s bodies centers p (held_at held p))
          ∙ ap (loads_of s) more;
      all_small = subst (λ ms. All (λ (m : Meeting). IsSmall m.push) ms) more
          (small-more (meetings s bodies centers held (old ++ new_in was (take i new))) (meeting s bodies centers p (held_at held p)) h.all_small small);
      kept = entries.kept;
      small = entries.small;
    }

-- what was found of a pair in the old list
abbrev pub IsFound : List Pair → Pair → Option ℕ → Type 0
IsFound old p place = MatchOption place (Contains old p → ⊥) (λ k. slice_get old k ≡ Some p)

-- a place that was found is one of the old list
pub found-within : (old : List Pair) (before : List (Option Vec3)) (p : Pair) (place : Option ℕ) → length old ≤ length before → IsFound old p place → IfSome place (λ k. k < length before)
found-within old before p (Some k) room there = let lt : k < length old = slice_get_within old k p there in omega arith
found-within old before p None room nowhere = tt

-- whether a pair was near where the old list was made
was-near : (s : SceneValue) (drift : ℕ) (from : List Vec3) (old : List Pair) (k : ℕ) (p : Pair) → old ≡ near_of s drift from → slice_get old k ≡ Some p → near s drift from p ≡ true
unfolding near_of
was-near s drift from old k p is there =
    all-read (λ q. near s drift from q ≡ true) old k p (subst (All (λ q. near s drift from q ≡ true)) (sym is) (filter_passes (near s drift from) (all_pairs s))) there

was-far : (s : SceneValue) (drift : ℕ) (from : List Vec3) (old : List Pair) (p : Pair) → old ≡ near_of s drift from → Contains (all_pairs s) p → (Contains old p → ⊥) → near s drift from p ≡ false
was-far s drift from old p is listed nowhere =
    elim (cases_Bool (near s drift from p)) [
      | inl t ↦ absurd (nowhere (subst (λ (xs : List Pair). Contains xs p) (sym is) (near-contains s drift from p listed t)))
      | inr f ↦ f
    ]

-- a pair of a near list is one of all pairs
pair-listed : (s : SceneValue) (drift : ℕ) (from : List Vec3) (ps : List Pair) (i : ℕ) (p : Pair) → ps ≡ near_of s drift from → slice_get ps i ≡ Some p → Contains (all_pairs s) p
unfolding near_of
pair-listed s drift from ps i p is there =
    all-read (Contains (all_pairs s)) ps i p
    (subst (All (Contains (all_pairs s))) (sym is) (All-filter (near s drift from) (Contains (all_pairs s)) (all_pairs s) (All-contains_itself (all_pairs s)))) there

-- the old list and the new one, with what the pairs of the old one came to
pub record AreTwo (s : SceneValue) (drift : ℕ) (from since : List Vec3) (bodies : List Body) (centers : List Vec3) (held : List Held) (old new : List Pair) (first : List Load) (before : List (Option Vec3)) : Type 0 where
  pub was : old ≡ near_of s drift from
  pub is : new ≡ near_of s drift since
  pub ascends : IsAscending old
  pub room : length old ≤ length before
  pub met : HaveMet s bodies centers held old first before

-- one more pair of the new list
pub handed-more : (s : SceneValue) (drift : ℕ) (from since : List Vec3) (bodies : List Body) (centers : List Vec3) (held : List Held) (old new : List Pair) (first : List Load) (before : List (Option Vec3))
    (i : ℕ) (p : Pair) (h : Option Vec3) (place : Option ℕ) (loads next : List Load) (fresh : List (Option Vec3)) (e : Option Vec3) →
    AreTwo s drift from since bodies centers held old new first before →
    slice_get new i ≡ Some p → held_at held p ≡ h → i < length fresh → IsFound old p place →
    next ≡ loads_past s loads place (meeting s bodies centers p h) → e ≡ entry_past before place (meeting s bodies centers p h) → (place ≡ None → IsSmallMeeting (meeting s bodies centers p h)) →
    IsHandedOn s bodies centers held old (near s drift from) (take i new) loads fresh → IsHandedOn s bodies centers held old (near s drift from) (take (i + 1) new) next (slice_set fresh i e)
handed-more s drift from since bodies centers held old new first before i p h (Some k) loads next fresh e two there is room found grows entry small handed =
    let lt : k < length old = slice_get_within old k p found in
    let listed : Contains old p = subst (Contains old) (get_or_from_slice_get old k p p found) (Contains-get_or old k p lt) in
    subst (λ ws. IsHandedOn s bodies centers held old (near s drift from) (take (i + 1) new) ws (slice_set fresh i e)) (sym grows)
    (handed-old s bodies centers held old (near s drift from) new i p loads fresh e there room (was-near s drift from old k p two.was found)
    (entry ∙ entry-met s bodies centers held old first before k p two.ascends two.room two.met found)
    (small-met s bodies centers held old p two.met.small listed) handed)
handed-more s drift from since bodies centers held old new first before i p h None loads next fresh e two there is room found grows entry small handed =
    handed-new s bodies centers held old (near s drift from) new i p loads next fresh e there room
    (was-far s drift from old p two.was (pair-listed s drift since new i p two.is there) found)
    (grows ∙ ap (λ x. loads_after s loads (meeting s bodies centers p x)) (sym is))
    (entry ∙ ap (λ x. displacement_of (meeting s bodies centers p x)) (sym is))
    (subst (λ x. IsSmallMeeting (meeting s bodies centers p x)) (sym is) (small refl)) handed

-- the loads so far are within the bounds
pub handed-loads : (s : SceneValue) (drift : ℕ) (from since : List Vec3) (bodies : List Body) (centers : List Vec3) (held : List Held) (old new : List Pair) (i : ℕ) (loads : List Load) (fresh : List (Option Vec3)) →
    IsSound s → old ≡ near_of s drift from → new ≡ near_of s drift since → IsHandedOn s bodies centers held old (near s drift from) (take i new) loads fresh → AreLoads s loads
unfolding near_of
handed-loads s drift from since bodies centers held old new i loads fresh sound was is h =
    sums-within s bodies centers held (old ++ new_in (near s drift from) (take i new)) loads
    (λ c.
    subst (λ (xs : List Pair). pair_count s c (xs ++ new_in (near s drift from) (take i new)) ≤ most_pairs) (sym was)
    (subst (λ (xs : List Pair). pair_count s c (filter (near s drift from) (all_pairs s) ++ new_in (near s drift from) (take i xs)) ≤ most_pairs) (sym is)
    (few-parted s c i (near s drift from) (near s drift since) sound)))
    h.sums h.all_small

-- the sums over the old list and what is new in the next are those over the next
loads-handed : (s : SceneValue) (f : Pair → Option Meeting) (was will : Pair → Bool) (ps : List Pair) → All (GoesWith f was will) ps →
    loads_of s (filter_map f (filter was ps ++ new_in was (filter will ps))) ≡ loads_of s (filter_map f (filter will ps))
loads-handed s f was will ps gone =
    ap (loads_of s) (filter_map-append f (filter was ps) (new_in was (filter will ps)))
    ∙ sym (loads-add-up s (filter_map f (filter will ps)) (filter_map f (filter was ps)) (filter_map f (new_in was (filter will ps))) (λ c. adds-up s c f was will ps gone))

meetings-handed : (s : SceneValue) (drift : ℕ) (from since : List Vec3) (bodies : List Body) (centers : List Vec3) (held : List Held) → Covers s drift since centers →
    loads_of s (meetings s bodies centers held (near_of s drift from ++ new_in (near s drift from) (near_of s drift since))) ≡ loads_of s (meetings s bodies centers held (near_of s drift since))
unfolding meetings near_of
meetings-handed s drift from since bodies centers held covers =
    loads-handed s (λ (p : Pair). meeting s bodies centers p (held_at held p)) (near s drift from) (near s drift since) (all_pairs s)
    (λ k d lt far.
    let p : Pair = get_or (all_pairs s) k d in
    meeting-none s bodies centers p (held_at held p) (none_there (touch_of s centers p) (near s drift since p) (covers k d lt) far))

-- the whole of the new list has met
pub handed-all : (s : SceneValue) (drift : ℕ) (from since : List Vec3) (bodies : List Body) (centers : List Vec3) (held : List Held) (old new : List Pair) (loads : List Load) (fresh : List (Option Vec3)) →
    old ≡ near_of s drift from → new ≡ near_of s drift since → Covers s drift since centers → IsHandedOn s bodies centers held old (near s drift from) new loads fresh →
    HaveMet s bodies centers held new loads fresh
handed-all s drift from since bodies centers held old new loads fresh was is covers h = record {
  sums = h.sums
      ∙ ap (λ xs. loads_of s (meetings s bodies centers held (xs ++ new_in (near s drift from) new))) was
      ∙ ap (λ xs. loads_of s (meetings s bodies centers held (near_of s drift from ++ new_in (near s drift from) xs))) is
      ∙ meetings-handed s drift from since bodies centers held covers
      ∙ ap (λ xs. loads_of s (meetings s bodies centers held xs)) (sym is);
  kept = h.kept;
  small = h.small;
}

-- ---- what is held, of the one list and of the other

-- the pairs of a near list come to the same by all that agrees with the state
pub met-agreed : (s : SceneValue) (drift : ℕ) (from : List Vec3) (st : State) (bodies : List Body) (centers : List Vec3) (held other : List Held) (ps : List Pair) (loads : List Load) (fresh : List (Option Vec3)) →
    centers ≡ centers_of s st.bodies → ps ≡ near_of s drift from → Agrees s st held → Agrees s st other →
    HaveMet s bodies centers held ps loads fresh → HaveMet s bodies centers other ps loads fresh
unfolding near_of
met-agreed s drift from st bodies centers held other ps loads fresh centers_are is agrees too met =
    let all : All (λ p. is_some (touch_of s centers p) ≡ true → held_at held p ≡ held_at other p) (all_pairs s) =
    λ k d lt touches.
    let p : Pair = get_or (all_pairs s) k d in
    let here : is_some (touch_of s (centers_of s st.bodies) p) ≡ true = subst (λ cs. is_some (touch_of s cs p) ≡ true) centers_are touches in
    agrees k d lt here ∙ sym (too k d lt here) in
    let each : All (λ p. is_some (touch_of s centers p) ≡ true → held_at held p ≡ held_at other p) ps =
    subst (All (λ p. is_some (touch_of s centers p) ≡ true → held_at held p ≡ held_at other p)) (sym is)
    (All-filter (near s drift from) (λ p. is_some (touch_of s centers p) ≡ true → held_at held p ≡ held_at other p) (all_pairs s) all) in
    let same : meetings s bodies centers held ps ≡ meetings s bodies centers other ps = meetings-agree s bodies centers held other ps each in
    record {
      sums = met.sums ∙ ap (loads_of s) same;
      kept = met.kept ∙ ap (map held_in) same;
      small = subst (λ ms. All (λ (m : Meeting). IsSmall m.push) ms) same met.small;
    }
