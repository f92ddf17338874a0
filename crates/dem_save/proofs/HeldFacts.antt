-- What a step holds: pairs that may touch, in their order, and displacements within their range.
use Rattle.std.proofs.Common.{◌≡◌, ℕ, ◌*◌, ◌<◌, ◌≤◌, pos, Bool, true, false, List, [], ◌∷◌, length, map, get_or, Option, Some, None, All, if◌then◌else◌, cond, sym, ap, refl, subst, arith}
use Rattle.std.specs.Prelude.{IfSome, ◌==◌, nat_le, filter}
use Rattle.std.specs.List.{filter_map, cons_option}
use Rattle.std.specs.List.Sorted.{IsStrictlySortedBy}
use Rattle.std.specs.Option.{option_map, is_some, unwrap_or}
use Rattle.std.proofs.lemmas.Bool.{leb-false}
use Rattle.std.proofs.lemmas.List.{get_or-map, length-map}
use Rattle.std.proofs.lemmas.List.Elements.{All-nil, All-cons, All-map, All-filter, Contains-get_or}
use Rattle.std.proofs.lemmas.List.Kept.{IsStrictlySortedBy-filter}
use Rattle.std.proofs.lemmas.Nat.{mul-le}
use Rattle.dem_num.specs.declared.vector.Vec3.{Vec3}
use Rattle.dem_num.specs.declared.vector.Wide3.{Wide3}
use Rattle.dem_num.specs.Numbers.{root_of}
use Rattle.dem_num.specs.Vectors.{widened, narrowed, no_vector, sum_of, scaled, quotients, norm2_of, Within}
use Rattle.dem_num.proofs.VectorSizes.{scaled_within, quotients_within, clamped_within}
use Rattle.dem_model.specs.SceneValue.{SceneValue}
use Rattle.dem_model.specs.Centers.{touch_of}
use Rattle.dem_model.specs.Fit.{held_pairs}
use Rattle.dem_model.specs.Law.{across_normal, carried_of, held_after, push_with, with_rolling, pushed_of, contact_of}
use Rattle.dem_model.specs.Motion.{IsPair}
use Rattle.dem_model.specs.Pairs.{all_pairs, pair_cmp}
use Rattle.dem_model.specs.Step.{Meeting, push_of, held_at, meeting, meetings, held_in}
use Rattle.dem_model.specs.declared.law.Law.{Law}
use Rattle.dem_model.specs.declared.law.Side.{Side}
use Rattle.dem_model.specs.declared.law.Touch.{Touch}
use Rattle.dem_model.specs.declared.limits.TheConstants.{MAX_DISPLACEMENT}
use Rattle.dem_model.specs.declared.state.Body.{Body}
use Rattle.dem_model.specs.declared.state.Held.{Held}
use Rattle.dem_model.specs.declared.state.Pair.{Pair}
use Rattle.dem_model.proofs.PairFacts.{all_pairs-are}
use Rattle.dem_margin.proofs.OrderFacts.{all_pairs-ascend}

-- ---- displacements

-- a displacement is within its range
abbrev pub IsStored : Vec3 → Type 0
IsStored h = Within (widened h) MAX_DISPLACEMENT

-- a vector shortened in the ratio of a bound to a size that passes it
shortened-stored : (h : Vec3) (bound size : ℕ) → bound < size → IsStored h → IsStored (narrowed (quotients (scaled (pos bound) (widened h)) (pos size)))
shortened-stored h bound size passed stored =
    let m : ℕ = MAX_DISPLACEMENT in
    let less : bound * m ≤ size * m = mul-le bound m size m (omega arith) (omega arith) in
    let product : Within (scaled (pos bound) (widened h)) (bound * m) = scaled_within (pos bound) (widened h) bound m (omega arith) stored in
    let w = quotients_within (scaled (pos bound) (widened h)) (pos size) (bound * m) m (omega arith) product (omega arith) in
    record { x = w.x; y = w.y; z = w.z }

-- what friction leaves of a displacement
held_after-stored : (kt bound : ℕ) (trial : Wide3) (h : Vec3) → IsStored h → IsStored (held_after kt bound trial h)
unfolding held_after
held_after-stored kt bound trial h stored = by (kt == 0) (nat_le (root_of (norm2_of trial)) bound) refl
  where
    by : (none sticks : Bool) → nat_le (root_of (norm2_of trial)) bound ≡ sticks
        → IsStored (if none then narrowed no_vector else (if sticks then h else narrowed (quotients (scaled (pos bound) (widened h)) (pos (root_of (norm2_of trial))))))
    by true sticks e = record { x = omega arith; y = omega arith; z = omega arith }
    by false true e = stored
    by false false e = shortened-stored h bound (root_of (norm2_of trial)) (leb-false (root_of (norm2_of trial)) bound e) stored

-- a displacement that is carried into a step
carried-stored : (n : Vec3) (slip : Wide3) (h0 : Vec3) → IsStored (carried_of n slip h0)
unfolding carried_of
carried-stored n slip h0 = let w = clamped_within (sum_of (across_normal n (widened h0)) slip) (pos MAX_DISPLACEMENT) in record { x = w.x; y = w.y; z = w.z }

-- the displacement of a contact
contact-stored : (law : Law) (a b : Side) (t : Touch) (h0 : Vec3) → IsStored (contact_of law a b t h0).h
unfolding contact_of pushed_of with_rolling push_with
contact-stored law a b t h0 = held_after-stored law.kt _ _ _ (carried-stored t.n _ h0)

-- ---- the meetings of a step

-- what a test gives of each item has what each has that it may give
given-all : {X Y : Type 0} (P : Y → Type 0) (f : X → Option Y) → ((x : X) → IfSome (f x) P) → (xs : List X) → All P (filter_map f xs)
given-all P f each [] = All-nil P
given-all {X = X} {Y = Y} P f each (x ∷ xs) = by (f x) (each x) (given-all P f each xs)
  where
    by : (o : Option Y) → IfSome o P → All P (filter_map f xs) → All P (cons_option o (filter_map f xs))
    by None h rest = rest
    by (Some y) h rest = All-cons P y (filter_map f xs) h rest

meeting-stored : (s : SceneValue) (bodies : List Body) (centers : List Vec3) (p : Pair) (h : Option Vec3) → IfSome (meeting s bodies centers p h) (λ (m : Meeting). IsStored m.push.h)
unfolding meeting push_of
meeting-stored s bodies centers p h = by (touch_of s centers p)
  where
    by : (o : Option Touch) → IfSome (option_map (λ (t : Touch). let m : Meeting = record { pair = p; push = push_of s bodies p t (unwrap_or h (narrowed no_vector)) } in m) o) (λ (m : Meeting). IsStored m.push.h)
    by None = tt
    by (Some t) = contact-stored _ _ _ t (unwrap_or h (narrowed no_vector))

-- each displacement of the meetings is within its range
pub meetings-stored : (s : SceneValue) (bodies : List Body) (centers : List Vec3) (held : List Held) (ps : List Pair)
    → All (λ (e : Held). IsStored e.h) (map held_in (meetings s bodies centers held ps))
unfolding meetings held_in
meetings-stored s bodies centers held ps =
    All-map (λ (e : Held). IsStored e.h) held_in (filter_map (λ p. meeting s bodies centers p (held_at held p)) ps)
    (given-all (λ (m : Meeting). IsStored m.push.h) (λ p. meeting s bodies centers p (held_at held p)) (λ p. meeting-stored s bodies centers p (held_at held p)) ps)

-- whether a pair touches
abbrev touches : SceneValue → List Vec3 → Pair → Bool
touches s centers p = is_some (touch_of s centers p)

-- the pairs that meet are those that touch
meetings-pairs : (s : SceneValue) (bodies : List Body) (centers : List Vec3) (held : List Held) (ps : List Pair)
    → held_pairs (map held_in (meetings s bodies centers held ps)) ≡ filter (touches s centers) ps
unfolding meetings meeting held_in
meetings-pairs s bodies centers held [] = refl
meetings-pairs s bodies centers held (p ∷ ps) = by (touch_of s centers p) (meetings-pairs s bodies centers held ps)
  where
    by : (o : Option Touch) → held_pairs (map held_in (filter_map (λ q. meeting s bodies centers q (held_at held q)) ps)) ≡ filter (touches s centers) ps
        → held_pairs (map held_in (cons_option (option_map (λ (t : Touch). let m : Meeting = record { pair = p; push = push_of s bodies p t (unwrap_or (held_at held p) (narrowed no_vector)) } in m) o) (filter_map (λ q. meeting s bodies centers q (held_at held q)) ps)))
        ≡ cond (is_some o) (p ∷ filter (touches s centers) ps) (filter (touches s centers) ps)
    by None e = e
    by (Some t) e = ap (λ (l : List Pair). p ∷ l) e

-- ---- what is held

-- what holds of each pair that is held holds of each entry's pair
held-each : (P : Pair → Type 0) (held : List Held) → All P (held_pairs held) → All (λ (e : Held). P e.pair) held
held-each P held h k d lt =
    let size : length (held_pairs held) ≡ length held = length-map held (λ (e : Held). e.pair) in
    subst P (get_or-map (λ (e : Held). e.pair) held k d d.pair lt) (h k d.pair (omega arith))

-- the pairs that meet ascend
pub meetings-ascend : (s : SceneValue) (bodies : List Body) (centers : List Vec3) (held : List Held)
    → IsStrictlySortedBy pair_cmp (held_pairs (map held_in (meetings s bodies centers held (all_pairs s))))
meetings-ascend s bodies centers held =
    subst (IsStrictlySortedBy pair_cmp) (sym (meetings-pairs s bodies centers held (all_pairs s)))
    (IsStrictlySortedBy-filter pair_cmp (touches s centers) (all_pairs s) (all_pairs-ascend s))

-- the pairs that meet may touch
pub meetings-are_pairs : (s : SceneValue) (bodies : List Body) (centers : List Vec3) (held : List Held)
    → All (λ (e : Held). IsPair s e.pair) (map held_in (meetings s bodies centers held (all_pairs s)))
meetings-are_pairs s bodies centers held =
    held-each (IsPair s) (map held_in (meetings s bodies centers held (all_pairs s)))
    (subst (All (IsPair s)) (sym (meetings-pairs s bodies centers held (all_pairs s)))
    (All-filter (touches s centers) (IsPair s) (all_pairs s) (λ k d lt. all_pairs-are s (get_or (all_pairs s) k d) (Contains-get_or (all_pairs s) k d lt))))
