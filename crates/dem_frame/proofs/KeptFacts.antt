-- What each frame that is read keeps: a body per clump, pairs that ascend, displacements within their range, and few rows.
use Rattle.std.proofs.Common.{◌≡◌, ◌∙◌, ℕ, ◌+◌, ◌-◌, ◌^◌, ◌<◌, ◌≤◌, Bool, true, false, ℤ, pos, List, [], ◌∷◌, ◌++◌, codes, length, get_or, Option, Some, None, Err, All, if◌then◌else◌, inl, inr, ◌⊎◌, sym, ap, refl, subst, arith, unsigned_abs, option_and_then}
use Rattle.std.specs.Prelude.{IfOk, IfSome, ◌&&◌, nat_lt, nat_le, ok_or, option_map, slice_get}
use Rattle.std.specs.Cmp.{IsTotalOrder}
use Rattle.std.specs.List.Sorted.{IsStrictlySortedBy}
use Rattle.std.specs.Option.{option_map_or}
use Rattle.std.specs.declared.cmp.Ordering.TheVariants.{Less}
use Rattle.std.proofs.lemmas.Bool.{cases_lt, and_parts, ltb-true, ltb-false}
use Rattle.std.proofs.lemmas.Bool.Decides.{nat_tests}
use Rattle.std.proofs.lemmas.Cmp.{on_total, then_total, nat_cmp_total}
use Rattle.std.proofs.lemmas.List.{get_or_append_left, get_or_push, length_push, map_push, length-map, get_or-map}
use Rattle.std.proofs.lemmas.List.Elements.{All-nil, All-push}
use Rattle.std.proofs.lemmas.Map.Keys.{Less-from_sorted, sorted_from_all_adjacent}
use Rattle.std.proofs.lemmas.Option.{slice_get-get_or}
use Rattle.dem_num.specs.declared.vector.Vec3.{Vec3}
use Rattle.dem_num.specs.Vectors.{widened, Within}
use Rattle.dem_model.specs.Fit.{held_pairs}
use Rattle.dem_model.specs.Pairs.{pair_cmp}
use Rattle.dem_model.specs.declared.limits.TheConstants.{MAX_DISPLACEMENT}
use Rattle.dem_model.specs.declared.state.Body.{Body}
use Rattle.dem_model.specs.declared.state.Held.{Held}
use Rattle.dem_model.specs.declared.state.Pair.{Pair}
use Rattle.dem_model.specs.declared.state.State.{State}
use Rattle.dem_frame.specs.Records.{row_of, whole_of, top, vector_of, head_of, clump_of, pair_of, held_of, held_from, is_small, continues, comes_after}
use Rattle.dem_frame.specs.PartialFrames.{nothing_read, last_held, with_body, with_head, with_record, whole_frame, frame_from, frame_of}
use Rattle.dem_frame.specs.declared.partial.PartialFrame.{PartialFrame}
use Rattle.dem_frame.specs.declared.partial.FrameFault.{FrameFault}
use Rattle.dem_frame.specs.declared.partial.FrameFault.TheVariants.{Bad, Short}
use Rattle.dem_frame.proofs.FrameFacts.{frame-rows}

-- ---- what holds of a value, if there is one

if_map : {X Y : Type 0} (P : Y → Type 0) (g : X → Y) (o : Option X) → ((x : X) → o ≡ Some x → P (g x)) → IfSome (option_map g o) P
if_map P g None each = tt
if_map P g (Some x) each = each x refl

if_then : {X Y : Type 0} (P : Y → Type 0) (g : X → Option Y) (o : Option X) → ((x : X) → IfSome (g x) P) → IfSome (option_and_then g o) P
if_then P g None each = tt
if_then P g (Some x) each = each x

if_so : {X : Type 0} (P : X → Type 0) (b : Bool) (x : X) → (b ≡ true → P x) → IfSome (if b then Some x else None) P
if_so P true x h = h refl
if_so P false x h = tt

if_some : {X : Type 0} (P : X → Type 0) (o : Option X) (x : X) → IfSome o P → o ≡ Some x → P x
if_some P o x h e = subst (λ y. IfSome y P) e h

-- ---- the next pair

-- a displacement is within its range
abbrev pub IsStored : Vec3 → Type 0
IsStored h = Within (widened h) MAX_DISPLACEMENT

-- a pair comes after the last one, and its displacement is within its range
record IsNext (last : Option Held) (e : Held) : Type 0 where
  after : continues last e.pair ≡ true
  stored : IsStored e.h

each_most : (x y z m : ℕ) → (nat_le x m && nat_le y m && nat_le z m) ≡ true → (x ≤ m) × (y ≤ m) × (z ≤ m)
each_most x y z m h = (grind (arith, nat_tests), grind (arith, nat_tests), grind (arith, nat_tests))

small-stored : (h : Vec3) → is_small h ≡ true → IsStored h
unfolding is_small
small-stored h is =
    let each = each_most (unsigned_abs h.x) (unsigned_abs h.y) (unsigned_abs h.z) (2 ^ 40) is in
    record { x = each.0; y = each.1; z = each.2 }

held_from-next : (last : Option Held) (p : Pair) (h : Vec3) → IfSome (held_from last p h) (IsNext last)
unfolding held_from
held_from-next last p h =
    if_so (IsNext last) _ (record { pair = p; h = h })
    (λ e.
    let both = and_parts (nat_lt p.a p.b && is_small h) (continues last p) e in
    record { after = both.1; stored = small-stored h (and_parts (nat_lt p.a p.b) (is_small h) both.0).1 })

held_of-next : (last : Option Held) (ns : List ℤ) → IfSome (held_of last ns) (IsNext last)
unfolding held_of
held_of-next last ns =
    if_then (IsNext last) (λ a. option_and_then (λ b. held_from last (record { a = a; b = b }) (vector_of ns 2)) (whole_of top (get_or ns 1 (pos 0)))) (whole_of top (get_or ns 0 (pos 0)))
    (λ a. if_then (IsNext last) (λ b. held_from last (record { a = a; b = b }) (vector_of ns 2)) (whole_of top (get_or ns 1 (pos 0)))
    (λ b. held_from-next last (record { a = a; b = b }) (vector_of ns 2)))

pair_of-next : (last : Option Held) (fields : List (List ℕ)) → IfSome (pair_of last fields) (IsNext last)
unfolding pair_of
pair_of-next last fields = if_then (IsNext last) (held_of last) (row_of (codes "pair") 5 fields) (held_of-next last)

-- ---- pairs that ascend

-- the order of pairs is a total order
pairs_total : IsTotalOrder pair_cmp
pairs_total = then_total (on_total (λ (p : Pair). p.a) nat_cmp_total) (on_total (λ (p : Pair). p.b) nat_cmp_total)

-- what comes after a pair is greater in the order of pairs
after-less : (p q : Pair) → comes_after p q ≡ true → pair_cmp p q ≡ Less
unfolding comes_after
after-less p q h = grind (arith, nat_tests)

-- the last pair that is held is that of the last entry
last-after : (held : List Held) (p : Pair) (k : ℕ) (d : Held) → k + 1 ≡ length held → continues (last_held held) p ≡ true → comes_after (get_or held k d).pair p ≡ true
unfolding continues
last-after held p k d e after =
    let place : length held - 1 ≡ k = omega arith in
    let last : last_held held ≡ Some (get_or held k d) = ap (λ (i : ℕ). slice_get held i) place ∙ slice_get-get_or held k d (omega arith) in
    rw last at after

-- the pairs ascend with one more that comes after the last
ascend-push : (held : List Held) (e : Held) → IsStrictlySortedBy pair_cmp (held_pairs held) → continues (last_held held) e.pair ≡ true → IsStrictlySortedBy pair_cmp (held_pairs (held ++ e ∷ []))
ascend-push held e sorted after =
    let ps : List Pair = held_pairs held in
    let p : Pair = e.pair in
    let size : length ps ≡ length held = length-map held (λ (x : Held). x.pair) in
    subst (IsStrictlySortedBy pair_cmp) (sym (map_push (λ (x : Held). x.pair) held e))
    (sorted_from_all_adjacent pairs_total (ps ++ p ∷ []) p (λ k l. by k (omega (arith, length_push ps p)) size (cases_lt (k + 1) (length ps))))
  where
    by : (k : ℕ) → k < length (held_pairs held) → length (held_pairs held) ≡ length held → ((k + 1) < length (held_pairs held)) ⊎ (length (held_pairs held) ≤ k + 1)
        → pair_cmp (get_or (held_pairs held ++ e.pair ∷ []) k e.pair) (get_or (held_pairs held ++ e.pair ∷ []) (k + 1) e.pair) ≡ Less
    by k l size (inl m) =
        rw (get_or_append_left (held_pairs held) (e.pair ∷ []) e.pair k l, get_or_append_left (held_pairs held) (e.pair ∷ []) e.pair (k + 1) m)
        (Less-from_sorted {K = Pair} pair_cmp (held_pairs held) k (k + 1) e.pair sorted (omega arith) m)
    by k l size (inr m) =
        rw (get_or_append_left (held_pairs held) (e.pair ∷ []) e.pair k l, get_or_push (held_pairs held) e.pair e.pair (k + 1) (omega arith), get_or-map (λ (x : Held). x.pair) held k e e.pair (omega arith))
        (after-less (get_or held k e).pair e.pair (last-after held e.pair k e (omega arith) after))

-- ---- record after record

-- what was read of a frame: no more bodies than clumps, no more pairs than so many rows, pairs that ascend, displacements within their range
record IsPart (clumps rows : ℕ) (frame : PartialFrame) : Type 0 where
  count : length frame.bodies ≤ clumps
  few : length frame.held ≤ rows
  ascending : IsStrictlySortedBy pair_cmp (held_pairs frame.held)
  stored : All (λ (e : Held). IsStored e.h) frame.held

-- the state of a frame: a body per clump, no more pairs than so many rows, pairs that ascend, displacements within their range
pub record IsRead (clumps rows : ℕ) (st : State) : Type 0 where
  pub count : length st.bodies ≡ clumps
  pub few : length st.held ≤ rows
  pub ascending : IsStrictlySortedBy pair_cmp (held_pairs st.held)
  pub stored : All (λ (e : Held). IsStored e.h) st.held

-- a frame with one more body, with one more pair, with its head
abbrev and_body : PartialFrame → Body → PartialFrame
and_body frame b = record frame { bodies = frame.bodies ++ b ∷ [] }

abbrev and_pair : PartialFrame → Held → PartialFrame
and_pair frame e = record frame { held = frame.held ++ e ∷ [] }

abbrev and_head : PartialFrame → ℕ → PartialFrame
and_head frame k = record frame { step = Some k }

-- the state of a frame whose head has this number
abbrev as_state : PartialFrame → ℕ → State
as_state frame k = record { step = k; bodies = frame.bodies; held = frame.held }

with_body-part : (clumps n : ℕ) (frame : PartialFrame) (fields : List (List ℕ)) → IsPart clumps n frame → IfSome (with_body clumps frame fields) (IsPart clumps (n + 1))
unfolding with_body
with_body-part clumps n frame fields h = by (nat_lt (length frame.bodies) clumps) refl
  where
    by : (t : Bool) → nat_lt (length frame.bodies) clumps ≡ t
        → IfSome (if t then option_map (and_body frame) (clump_of (length frame.bodies) fields) else option_map (and_pair frame) (pair_of (last_held frame.held) fields)) (IsPart clumps (n + 1))
    by true e = if_map (IsPart clumps (n + 1)) (and_body frame) (clump_of (length frame.bodies) fields) (λ b is. record {
      count = let missing = ltb-true (length frame.bodies) clumps e in omega (arith, length_push frame.bodies b);
      few = let few = h.few in omega arith;
      ascending = h.ascending;
      stored = h.stored;
    })
    by false e = if_map (IsPart clumps (n + 1)) (and_pair frame) (pair_of (last_held frame.held) fields) (λ x is.
        let next = if_some (IsNext (last_held frame.held)) (pair_of (last_held frame.held) fields) x (pair_of-next (last_held frame.held) fields) is in
        record {
          count = h.count;
          few = let few = h.few in omega (arith, length_push frame.held x);
          ascending = ascend-push frame.held x h.ascending next.after;
          stored = All-push (λ (y : Held). IsStored y.h) frame.held x h.stored next.stored;
        })

with_head-part : (clumps n : ℕ) (frame : PartialFrame) (step : Option ℕ) (fields : List (List ℕ)) → IsPart clumps n frame → IfSome (with_head clumps frame step fields) (IsPart clumps (n + 1))
unfolding with_head
with_head-part clumps n frame None fields h = if_map (IsPart clumps (n + 1)) (and_head frame) (head_of fields) (λ k is. record {
  count = h.count;
  few = let few = h.few in omega arith;
  ascending = h.ascending;
  stored = h.stored;
})
with_head-part clumps n frame (Some k) fields h = with_body-part clumps n frame fields h

-- ---- the whole frame

whole_frame-read : (clumps rows n : ℕ) (frame : PartialFrame) → n ≤ rows → IsPart clumps n frame → IfSome (whole_frame clumps frame) (IsRead clumps rows)
unfolding whole_frame
whole_frame-read clumps rows n frame within h = by (nat_lt (length frame.bodies) clumps) refl
  where
    by : (t : Bool) → nat_lt (length frame.bodies) clumps ≡ t
        → IfSome (if t then None else option_map (as_state frame) frame.step) (IsRead clumps rows)
    by true e = tt
    by false e = if_map (IsRead clumps rows) (as_state frame) frame.step (λ k is. record {
      count = let all = ltb-false (length frame.bodies) clumps e in let most = h.count in omega arith;
      few = let few = h.few in omega arith;
      ascending = h.ascending;
      stored = h.stored;
    })

ok_or-read : (clumps rows : ℕ) (o : Option State) (fault : FrameFault) → IfSome o (IsRead clumps rows) → IfOk (ok_or o fault) (IsRead clumps rows)
ok_or-read clumps rows None fault h = tt
ok_or-read clumps rows (Some st) fault h = h

next-read : (clumps rows n : ℕ) (more : List (List (List ℕ))) (o : Option PartialFrame) → IfSome o (IsPart clumps (n + 1))
    → ((next : PartialFrame) → IsPart clumps (n + 1) next → IfOk (frame_from clumps (n + 1) next more) (IsRead clumps rows))
    → IfOk (option_map_or (λ next. frame_from clumps (n + 1) next more) o (Err (Bad (n + 1)))) (IsRead clumps rows)
next-read clumps rows n more None h each = tt
next-read clumps rows n more (Some next) h each = each next h

frame_from-read : (clumps rows n : ℕ) (frame : PartialFrame) (more : List (List (List ℕ))) → n + length more ≤ rows → IsPart clumps n frame → IfOk (frame_from clumps n frame more) (IsRead clumps rows)
unfolding frame_from
frame_from-read clumps rows n frame [] within h = ok_or-read clumps rows (whole_frame clumps frame) (Short n) (whole_frame-read clumps rows n frame (omega arith) h)
frame_from-read clumps rows n frame (row ∷ more) within h =
    next-read clumps rows n more (with_record clumps frame row) (with_head-part clumps n frame frame.step row h)
    (λ next is. frame_from-read clumps rows (n + 1) next more (omega arith) is)

nothing-part : (clumps : ℕ) → IsPart clumps 0 nothing_read
unfolding IsStrictlySortedBy
nothing-part clumps = record { count = omega arith; few = omega arith; ascending = tt; stored = All-nil (λ (e : Held). IsStored e.h) }

-- what each frame that is read keeps
pub frame-read : (clumps : ℕ) (text : List ℕ) → IfOk (frame_of clumps text) (IsRead clumps (length text))
frame-read clumps text =
    let rows = frame-rows clumps text in
    let few = rows.few in
    rw rows.same (frame_from-read clumps (length text) 0 nothing_read rows.rows (omega arith) (nothing-part clumps))
