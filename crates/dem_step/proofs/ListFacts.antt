-- Lists of pairs and their entries: what is held, what is carried, what meets, and how many pairs there are.
use Rattle.std.proofs.Common.{◌≡◌, ℕ, zero, suc, ◌+◌, ◌<◌, ◌≤◌, arith, Bool, true, false, List, [], ◌∷◌, ◌++◌, length, get_or, take, drop, map, inl, inr, refl, sym, ap, ◌∙◌, subst, Option, Some, None}
use Rattle.std.specs.Prelude.{All, filter, slice_set, is_some}
use Rattle.std.specs.List.{Contains, cons_option, filter_map}
use Rattle.std.specs.Option.{option_map, unwrap_or}
use Rattle.std.proofs.lemmas.Bool.{cases_Bool}
use Rattle.std.proofs.lemmas.List.{take-append-drop}
use Rattle.std.proofs.lemmas.List.Elements.{All-nil, All-cons, All-head, All-tail, All-map, All-filter, Contains-get_or}
use Rattle.dem_num.specs.declared.vector.Vec3.{Vec3}
use Rattle.dem_num.specs.Vectors.{widened, narrowed, no_vector, Within}
use Rattle.dem_model.specs.SceneValue.{SceneValue}
use Rattle.dem_model.specs.Sound.{IsSound}
use Rattle.dem_model.specs.Pairs.{all_pairs}
use Rattle.dem_model.specs.Centers.{centers_of, touch_of}
use Rattle.dem_model.specs.Motion.{IsPair}
use Rattle.dem_model.specs.Near.{near, near_of, Covers}
use Rattle.dem_model.specs.Carry.{held_of, kept_of, carried, Agrees}
use Rattle.dem_model.specs.Step.{same_pair, held_at, meeting, meetings, push_of, held_in}
use Rattle.dem_model.specs.declared.law.Touch.{Touch}
use Rattle.dem_model.specs.declared.state.Body.{Body}
use Rattle.dem_model.specs.declared.state.Held.{Held}
use Rattle.dem_model.specs.declared.state.Pair.{Pair}
use Rattle.dem_model.specs.declared.state.State.{State}
use Rattle.dem_model.proofs.CountFacts.{pair_count-append, pair_count-all}
use Rattle.dem_model.specs.Counts.{pair_count}
use Rattle.dem_model.specs.declared.limits.TheConstants.{MAX_DISPLACEMENT}
use Rattle.dem_force.specs.Stored.{AreStored, IsStored}
use Rattle.dem_list.proofs.AscendingFacts.{same_pair-equal}
use Rattle.dem_hist.proofs.CarryFacts.{kept_of-cons, same_pair-itself}
use Rattle.dem_margin.proofs.PairsFacts.{all_pairs-pairs}
use Rattle.dem_step.specs.Contacts.{ArePairs, IsHeldIn}
use Rattle.dem_step.specs.Inside.{displacement_of}

-- ---- what is held of the pairs of a list

-- what is put before a list is before what follows it
cons_option-append : {X : Type 0} (o : Option X) (xs ys : List X) → cons_option o (xs ++ ys) ≡ cons_option o xs ++ ys
cons_option-append None xs ys = refl
cons_option-append (Some x) xs ys = refl

-- an entry that is put after those of the pairs so far is held last
pub kept_of-set : (qs : List Pair) (es : List (Option Vec3)) (i : ℕ) (p : Pair) (x : Option Vec3) → length qs ≡ i → i < length es →
    kept_of (qs ++ p ∷ []) (slice_set es i x) ≡ kept_of qs es ++ cons_option (option_map (held_of p) x) []
unfolding kept_of
kept_of-set [] [] i p x n lt = absurd (omega arith)
kept_of-set [] (e ∷ es) zero p x n lt = refl
kept_of-set [] (e ∷ es) (suc i) p x n lt = absurd (omega arith)
kept_of-set (q ∷ qs) [] i p x n lt = absurd (omega arith)
kept_of-set (q ∷ qs) (e ∷ es) zero p x n lt = absurd (omega arith)
kept_of-set (q ∷ qs) (e ∷ es) (suc i) p x n lt =
    ap (cons_option (option_map (held_of q) e)) (kept_of-set qs es i p x (omega arith) (omega arith))
    ∙ cons_option-append (option_map (held_of q) e) (kept_of qs es) (cons_option (option_map (held_of p) x) [])

-- entries past the last pair count for nothing
pub kept_of-take : (ps : List Pair) (es : List (Option Vec3)) → kept_of ps (take (length ps) es) ≡ kept_of ps es
unfolding kept_of
kept_of-take [] es = refl
kept_of-take (p ∷ ps) [] = refl
kept_of-take (p ∷ ps) (e ∷ es) = ap (cons_option (option_map (held_of p) e)) (kept_of-take ps es)

-- ---- how large what is held is

-- a displacement that may be stored
abbrev Fits : Vec3 → Type 0
Fits h = Within (widened h) MAX_DISPLACEMENT

-- an entry that may be stored
abbrev EntryFits : Option Vec3 → Type 0
EntryFits e = IsStored e

-- what is held of a pair, within the range
abbrev HeldFits : Held → Type 0
HeldFits e = Within (widened e.h) MAX_DISPLACEMENT

-- one entry more is held within the range
cons_stored : (p : Pair) (e : Option Vec3) (hs : List Held) → EntryFits e → AreStored hs → AreStored (cons_option (option_map (held_of p) e) hs)
cons_stored p None hs fits rest = rest
cons_stored p (Some h) hs fits rest = All-cons HeldFits (held_of p h) hs fits rest

-- the entry of the first pair is within the range, and what is held of the others
cons_within : (p : Pair) (e : Option Vec3) (hs : List Held) → AreStored (cons_option (option_map (held_of p) e) hs) → EntryFits e × AreStored hs
cons_within p None hs all = (tt, all)
cons_within p (Some h) hs all = (All-head HeldFits (held_of p h) hs all, All-tail HeldFits (held_of p h) hs all)

-- entries within the range are held within it
pub within-stored : (ps : List Pair) (es : List (Option Vec3)) → All IsStored es → AreStored (kept_of ps es)
unfolding kept_of
within-stored [] es h = All-nil HeldFits
within-stored (p ∷ ps) [] h = All-nil HeldFits
within-stored (p ∷ ps) (e ∷ es) h =
    cons_stored p e (kept_of ps es) (All-head EntryFits e es h) (within-stored ps es (All-tail EntryFits e es h))

-- and where there is an entry for each pair, they are within the range if all that is held is
pub stored-within : (ps : List Pair) (es : List (Option Vec3)) → length es ≡ length ps → AreStored (kept_of ps es) → All IsStored es
unfolding kept_of
stored-within [] [] n h = All-nil EntryFits
stored-within [] (e ∷ es) n h = absurd (omega arith)
stored-within (p ∷ ps) [] n h = All-nil EntryFits
stored-within (p ∷ ps) (e ∷ es) n h =
    let parts = cons_within p e (kept_of ps es) h in
    All-cons EntryFits e es parts.0 (stored-within ps es (omega arith) parts.1)

-- what is held of one pair is within the range
pub held_at-within : (es : List Held) (p : Pair) → AreStored es → IsStored (held_at es p)
unfolding held_at
held_at-within [] p all = tt
held_at-within (e ∷ es) p all =
    elim (cases_Bool (same_pair e.pair p)) [
      | inl t ↦ rw t (All-head HeldFits e es all)
      | inr f ↦ rw f (held_at-within es p (All-tail HeldFits e es all))
    ]

-- entries stay within the range when they are carried
pub carried-within : (ps : List Pair) (es : List (Option Vec3)) (new : List Pair) → All IsStored es → All IsStored (carried ps es new)
unfolding carried
carried-within ps es new h =
    All-map EntryFits (held_at (kept_of ps es)) new (λ k d lt. held_at-within (kept_of ps es) (get_or new k d) (within-stored ps es h))

-- ---- what is held of a pair of a list

-- the first entry is held of its pair, where nothing later is held if it is None
held_at-this : (e : Option Vec3) (q : Pair) (es : List Held) (p : Pair) → same_pair q p ≡ true → (e ≡ None → held_at es p ≡ None) →
    held_at (cons_option (option_map (held_of q) e) es) p ≡ e
unfolding held_at
held_at-this None q es p h none = none refl
held_at-this (Some v) q es p h none = rw h refl

-- of another pair the rest decides
held_at-other : (e : Option Vec3) (q : Pair) (es : List Held) (p : Pair) → same_pair q p ≡ false →
    held_at (cons_option (option_map (held_of q) e) es) p ≡ held_at es p
unfolding held_at
held_at-other None q es p h = refl
held_at-other (Some v) q es p h = rw h refl

-- pairs that are the same are one pair
same_is : (q p : Pair) → same_pair q p ≡ true → q ≡ p
unfolding same_pair
same_is q p h = same_pair-equal q p h

-- nothing is held of a pair whose entry is None
held_at-none : (f : Pair → Option Vec3) (new : List Pair) (p : Pair) → f p ≡ None → held_at (kept_of new (map f new)) p ≡ None
held_at-none f [] p none = unfold held_at kept_of in refl
held_at-none f (q ∷ new) p none =
    ap (λ hs. held_at hs p) (kept_of-cons q new (f q) (map f new))
    ∙ elim (cases_Bool (same_pair q p)) [
      | inl t ↦
          let here : f q ≡ None = ap f (same_is q p t) ∙ none in
          held_at-this (f q) q (kept_of new (map f new)) p t (λ e. held_at-none f new p none) ∙ here
      | inr o ↦ held_at-other (f q) q (kept_of new (map f new)) p o ∙ held_at-none f new p none
    ]

-- of each pair of a list what a function of the pair has put there is held
pub held_at-mapped : (f : Pair → Option Vec3) (new : List Pair) (p : Pair) → Contains new p → held_at (kept_of new (map f new)) p ≡ f p
held_at-mapped f [] p there = absurd (omega (arith, there.1))
held_at-mapped f (q ∷ new) p there =
    ap (λ hs. held_at hs p) (kept_of-cons q new (f q) (map f new))
    ∙ elim (cases_Bool (same_pair q p)) [
      | inl t ↦
          let is : f q ≡ f p = ap f (same_is q p t) in
          held_at-this (f q) q (kept_of new (map f new)) p t (λ e. held_at-none f new p (sym is ∙ e)) ∙ is
      | inr o ↦ held_at-other (f q) q (kept_of new (map f new)) p o ∙ held_at-mapped f new p (later q p new o there)
    ]
  where
    later : (q p : Pair) (new : List Pair) → same_pair q p ≡ false → Contains (q ∷ new) p → Contains new p
    later q p new o (zero, l, e) = let itself : same_pair q p ≡ true = ap (λ x. same_pair x p) e ∙ same_pair-itself p in absurd (cc)
    later q p new o (suc k, l, e) = (k, omega arith, e)

-- what is held of a pair is what the function has put there
held_at-only : (f : Pair → Option Vec3) (new : List Pair) (p : Pair) (h : Vec3) → held_at (kept_of new (map f new)) p ≡ Some h → f p ≡ Some h
held_at-only f [] p h e = let none : held_at (kept_of [] (map f [])) p ≡ None = unfold held_at kept_of in refl in absurd (cc)
held_at-only f (q ∷ new) p h e =
    let cons : held_at (cons_option (option_map (held_of q) (f q)) (kept_of new (map f new))) p ≡ Some h = ap (λ hs. held_at hs p) (sym (kept_of-cons q new (f q) (map f new))) ∙ e in
    elim (cases_Bool (same_pair q p)) [
      | inl t ↦
          ap f (sym (same_is q p t))
          ∙ sym (held_at-this (f q) q (kept_of new (map f new)) p t (λ none. held_at-none f new p (ap f (sym (same_is q p t)) ∙ none)))
          ∙ cons
      | inr o ↦ held_at-only f new p h (sym (held_at-other (f q) q (kept_of new (map f new)) p o) ∙ cons)
    ]

-- of each pair of the new list the old list's entry is held
pub held_at-carried : (ps : List Pair) (es : List (Option Vec3)) (new : List Pair) (p : Pair) → Contains new p →
    held_at (kept_of new (carried ps es new)) p ≡ held_at (kept_of ps es) p
unfolding carried
held_at-carried ps es new p there = held_at-mapped (held_at (kept_of ps es)) new p there

-- ---- what meets

-- what gives nothing may be left out
pub filter_map-filter : {X Y : Type 0} (f : X → Option Y) (q : X → Bool) (xs : List X) → All (λ x. q x ≡ false → f x ≡ None) xs →
    filter_map f (filter q xs) ≡ filter_map f xs
filter_map-filter f q [] all = refl
filter_map-filter {X} f q (x ∷ xs) all =
    let rest : filter_map f (filter q xs) ≡ filter_map f xs = filter_map-filter f q xs (All-tail (λ (y : X). q y ≡ false → f y ≡ None) x xs all) in
    elim (cases_Bool (q x)) [
      | inl t ↦ rw t (ap (cons_option (f x)) rest)
      | inr n ↦
          let none : f x ≡ None = All-head (λ (y : X). q y ≡ false → f y ≡ None) x xs all n in
          rw (n, none) rest
    ]

-- functions that give the same at each element
filter_map-agree : {X Y : Type 0} (f g : X → Option Y) (xs : List X) → All (λ x. f x ≡ g x) xs → filter_map f xs ≡ filter_map g xs
filter_map-agree f g [] all = refl
filter_map-agree {X} f g (x ∷ xs) all =
    let first : f x ≡ g x = All-head (λ (y : X). f y ≡ g y) x xs all in
    let rest : filter_map f xs ≡ filter_map g xs = filter_map-agree f g xs (All-tail (λ (y : X). f y ≡ g y) x xs all) in
    rw (first, rest) refl

-- nothing is there where what would follow doesn't hold
pub none_there : {X : Type 0} (o : Option X) (b : Bool) → (is_some o ≡ true → b ≡ true) → b ≡ false → o ≡ None
none_there None b follows n = refl
none_there (Some x) b follows n = let yes : b ≡ true = follows refl in absurd (cc)

-- a pair that doesn't touch has no meeting
pub meeting-none : (s : SceneValue) (bodies : List Body) (centers : List Vec3) (p : Pair) (h : Option Vec3) → touch_of s centers p ≡ None → meeting s bodies centers p h ≡ None
unfolding meeting
meeting-none s bodies centers p h e = rw e refl

-- the near pairs have all the meetings, where they cover those that touch
pub meetings-near : (s : SceneValue) (drift : ℕ) (bodies : List Body) (from centers : List Vec3) (held : List Held) → Covers s drift from centers →
    meetings s bodies centers held (near_of s drift from) ≡ meetings s bodies centers held (all_pairs s)
unfolding meetings near_of
meetings-near s drift bodies from centers held covers =
    filter_map-filter (λ (p : Pair). meeting s bodies centers p (held_at held p)) (near s drift from) (all_pairs s)
    (λ k d lt far.
    let p : Pair = get_or (all_pairs s) k d in
    meeting-none s bodies centers p (held_at held p) (none_there (touch_of s centers p) (near s drift from p) (covers k d lt) far))

-- a meeting asks what is held of its pair where it touches alone
meeting-agree : (s : SceneValue) (bodies : List Body) (centers : List Vec3) (p : Pair) (h k : Option Vec3) (o : Option Touch) → touch_of s centers p ≡ o →
    (is_some (touch_of s centers p) ≡ true → h ≡ k) → meeting s bodies centers p h ≡ meeting s bodies centers p k
meeting-agree s bodies centers p h k None e agree = meeting-none s bodies centers p h e ∙ sym (meeting-none s bodies centers p k e)
meeting-agree s bodies centers p h k (Some t) e agree = ap (meeting s bodies centers p) (agree (ap is_some e))

-- the meetings are the same where the same is held of each pair that touches
pub meetings-agree : (s : SceneValue) (bodies : List Body) (centers : List Vec3) (held other : List Held) (ps : List Pair) →
    All (λ p. is_some (touch_of s centers p) ≡ true → held_at held p ≡ held_at other p) ps →
    meetings s bodies centers held ps ≡ meetings s bodies centers other ps
unfolding meetings
meetings-agree s bodies centers held other ps agree =
    filter_map-agree (λ (p : Pair). meeting s bodies centers p (held_at held p)) (λ (p : Pair). meeting s bodies centers p (held_at other p)) ps
    (λ k d lt.
    let p : Pair = get_or ps k d in
    meeting-agree s bodies centers p (held_at held p) (held_at other p) (touch_of s centers p) refl (agree k d lt))

-- what a meeting leaves is held of its pair
pub entry-held : (s : SceneValue) (bodies : List Body) (centers : List Vec3) (p : Pair) (h : Option Vec3) →
    option_map (held_of p) (displacement_of (meeting s bodies centers p h)) ≡ option_map held_in (meeting s bodies centers p h)
unfolding meeting held_in
entry-held s bodies centers p h = by (touch_of s centers p)
  where
    by : (o : Option Touch) →
        option_map (held_of p) (displacement_of (option_map (λ (t : Touch). record { pair = p; push = push_of s bodies p t (unwrap_or h (narrowed no_vector)) }) o)) ≡
        option_map held_in (option_map (λ (t : Touch). record { pair = p; push = push_of s bodies p t (unwrap_or h (narrowed no_vector)) }) o)
    by None = refl
    by (Some t) = refl

-- ---- which pairs are near

-- what a longer list contains
contains_later : (q p : Pair) (ps : List Pair) → Contains ps p → Contains (q ∷ ps) p
contains_later q p ps there = (suc there.0, omega (arith, there.1), there.2)

-- a pair of a list that passes is among those that pass
contains_passing : (q : Pair → Bool) (ps : List Pair) (p : Pair) → Contains ps p → q p ≡ true → Contains (filter q ps) p
contains_passing q [] p there is = absurd (omega (arith, there.1))
contains_passing q (x ∷ ps) p (zero, l, e) is = let first : q x ≡ true = ap q e ∙ is in rw first (0, omega arith, e)
contains_passing q (x ∷ ps) p (suc k, l, e) is =
    let rest : Contains (filter q ps) p = contains_passing q ps p (k, omega arith, e) is in
    elim (cases_Bool (q x)) [
      | inl t ↦ rw t (contains_later x p (filter q ps) rest)
      | inr n ↦ rw n rest
    ]

-- a near pair is in the list of the near pairs
pub near-contains : (s : SceneValue) (drift : ℕ) (centers : List Vec3) (p : Pair) → Contains (all_pairs s) p → near s drift centers p ≡ true → Contains (near_of s drift centers) p
unfolding near_of
near-contains s drift centers p there is = contains_passing (near s drift centers) (all_pairs s) p there is

-- ---- how many pairs a clump has a part in

-- no more among the first than among all
pub pair_count-take : (s : SceneValue) (c i : ℕ) (ps : List Pair) → pair_count s c (take i ps) ≤ pair_count s c ps
pair_count-take s c i ps =
    let split : pair_count s c (take i ps ++ drop i ps) ≡ pair_count s c (take i ps) + pair_count s c (drop i ps) = pair_count-append s c (take i ps) (drop i ps) in
    let whole : pair_count s c (take i ps ++ drop i ps) ≡ pair_count s c ps = ap (pair_count s c) (take-append-drop i ps) in
    omega arith

-- no more among those that pass
pair_count-filter : (s : SceneValue) (c : ℕ) (q : Pair → Bool) (ps : List Pair) → pair_count s c (filter q ps) ≤ pair_count s c ps
unfolding pair_count
pair_count-filter s c q [] = omega arith
pair_count-filter s c q (p ∷ ps) =
    elim (cases_Bool (q p)) [
      | inl t ↦ rw t (omega (arith, pair_count-filter s c q ps))
      | inr n ↦ rw n (omega (arith, pair_count-filter s c q ps))
    ]

-- the near pairs are pairs, and few
pub near-pairs : (s : SceneValue) (drift : ℕ) (centers : List Vec3) → IsSound s → ArePairs s (near_of s drift centers)
unfolding near_of
near-pairs s drift centers sound = record {
  each = All-filter (near s drift centers) (IsPair s) (all_pairs s) (all_pairs-pairs s);
  few = λ c. omega (arith, pair_count-filter s c (near s drift centers) (all_pairs s), pair_count-all s c sound);
}

-- ---- a new list

-- what agrees with a state before it is carried to a list that covers each touch agrees after it
pub agrees-carried : (s : SceneValue) (drift : ℕ) (st : State) (from : List Vec3) (ps new : List Pair) (es : List (Option Vec3)) →
    Covers s drift from (centers_of s st.bodies) → new ≡ near_of s drift from → Agrees s st (kept_of ps es) → Agrees s st (kept_of new (carried ps es new))
agrees-carried s drift st from ps new es covers is agrees = λ k d lt touches.
    let p : Pair = get_or (all_pairs s) k d in
    let there : Contains (near_of s drift from) p = near-contains s drift from p (Contains-get_or (all_pairs s) k d lt) (covers k d lt touches) in
    let listed : Contains new p = subst (λ (xs : List Pair). Contains xs p) (sym is) there in
    held_at-carried ps es new p listed ∙ agrees k d lt touches

-- what is held of the old list's pairs is held of the new list's, and no more
pub only-carried : (st : State) (ps new : List Pair) (es : List (Option Vec3)) → IsHeldIn st (kept_of ps es) → IsHeldIn st (kept_of new (carried ps es new))
unfolding carried
only-carried st ps new es only = λ p h e. only p h (held_at-only (held_at (kept_of ps es)) new p h e)
