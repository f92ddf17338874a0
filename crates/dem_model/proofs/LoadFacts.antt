-- The sums per clump: one more meeting at a time, and how large they grow.
use Rattle.std.proofs.Common.{◌≡◌, ℕ, ◌+◌, ◌*◌, ◌^◌, ◌<◌, ◌≤◌, List, [], ◌∷◌, ◌++◌, length, get_or, map, sym, ap, ◌∙◌, arith, subst, zero-add, inl, inr, Option, Some, None, add-zero}
use Rattle.std.specs.List.{cons_option}
use Rattle.std.specs.Option.{option_map, unwrap_or}
use Rattle.std.specs.Prelude.{◌==◌, All, fold}
use Rattle.std.specs.List.{filter_map, range_with_len}
use Rattle.std.proofs.lemmas.List.{ext_get_or}
use Rattle.std.proofs.lemmas.List.FromFn.{length-map-range_with_len, get_or-map-range_with_len}
use Rattle.std.proofs.lemmas.List.Sums.{fold-append}
use Rattle.std.proofs.lemmas.List.Elements.{All-head, All-tail}
use Rattle.std.proofs.lemmas.Bool.{cases_Bool}
use Rattle.dem_num.specs.declared.vector.Vec3.{Vec3}
use Rattle.dem_num.specs.declared.vector.Wide3.{Wide3}
use Rattle.dem_num.specs.Vectors.{Within, sum_of, opposed, no_vector, narrowed}
use Rattle.dem_num.proofs.VectorSizes.{within_wider, sum_within, opposed_within}
use Rattle.dem_model.specs.SceneValue.{SceneValue}
use Rattle.dem_model.specs.Centers.{touch_of}
use Rattle.dem_model.specs.Ranges.{IsSmall}
use Rattle.dem_model.specs.Step.{Meeting, meeting, meetings, held_at, no_load, load_plus, first_clump, is_second, load_with, load_on, loads_of, loads_with, push_of}
use Rattle.dem_model.specs.declared.law.Load.{Load}
use Rattle.dem_model.specs.declared.law.Touch.{Touch}
use Rattle.dem_model.specs.declared.state.Body.{Body}
use Rattle.dem_model.specs.declared.state.Held.{Held}
use Rattle.dem_model.specs.declared.state.Pair.{Pair}
use Rattle.dem_model.specs.Counts.{one_if, involves, pair_count, most_pairs}

-- the loads of some meetings and one more
pub loads_of-push : (s : SceneValue) (ms : List Meeting) (m : Meeting) → loads_of s (ms ++ m ∷ []) ≡ loads_with s (loads_of s ms) m
unfolding loads_of loads_with load_on
loads_of-push s ms m =
    let n = length s.clumps in
    let size : length (map (λ c. fold (load_with s c) no_load ms) (range_with_len 0 (length s.clumps))) ≡ length s.clumps = length-map-range_with_len (λ c. fold (load_with s c) no_load ms) 0 (length s.clumps) in
    ext_get_or no_load
    (map (λ c. fold (load_with s c) no_load (ms ++ m ∷ [])) (range_with_len 0 (length s.clumps)))
    (map (λ c. load_with s c (get_or (map (λ k. fold (load_with s k) no_load ms) (range_with_len 0 (length s.clumps))) c no_load) m)
    (range_with_len 0 (length (map (λ c. fold (load_with s c) no_load ms) (range_with_len 0 (length s.clumps))))))
    (length-map-range_with_len (λ c. fold (load_with s c) no_load (ms ++ m ∷ [])) 0 (length s.clumps)
    ∙ sym size
    ∙ sym (length-map-range_with_len (λ c. load_with s c (get_or (map (λ k. fold (load_with s k) no_load ms) (range_with_len 0 (length s.clumps))) c no_load) m) 0 (length (map (λ c. fold (load_with s c) no_load ms) (range_with_len 0 (length s.clumps))))))
    (λ i lt.
    let within : i < length s.clumps = omega (arith, length-map-range_with_len (λ c. fold (load_with s c) no_load (ms ++ m ∷ [])) 0 (length s.clumps)) in
    get_or-map-range_with_len (λ c. fold (load_with s c) no_load (ms ++ m ∷ [])) 0 (length s.clumps) i i no_load within (zero-add i)
    ∙ fold-append (load_with s i) no_load ms (m ∷ [])
    ∙ ap (λ w. load_with s i w m) (sym (get_or-map-range_with_len (λ k. fold (load_with s k) no_load ms) 0 (length s.clumps) i i no_load within (zero-add i)))
    ∙ sym (get_or-map-range_with_len (λ c. load_with s c (get_or (map (λ k. fold (load_with s k) no_load ms) (range_with_len 0 (length s.clumps))) c no_load) m) 0 (length (map (λ c. fold (load_with s c) no_load ms) (range_with_len 0 (length s.clumps)))) i i no_load (omega (arith, size)) (zero-add i)))

-- there is a load for each clump
pub length-loads_of : (s : SceneValue) (ms : List Meeting) → length (loads_of s ms) ≡ length s.clumps
unfolding loads_of
length-loads_of s ms = length-map-range_with_len (load_on s ms) 0 (length s.clumps)

-- a load is at most n contacts' worth
pub record IsLoadOf (n : ℕ) (w : Load) : Type 0 where
  pub force : Within w.force (n * 2 ^ 63)
  pub torque : Within w.torque (n * 2 ^ 93)

plus_within : (n : ℕ) (w : Load) (force torque : Wide3) → IsLoadOf n w → Within force (2 ^ 63) → Within torque (2 ^ 93) → IsLoadOf (n + 1) (load_plus w force torque)
plus_within n w force torque h f t = record {
  force = within_wider (sum_of w.force force) (n * 2 ^ 63 + 2 ^ 63) ((n + 1) * 2 ^ 63) (sum_within w.force force (n * 2 ^ 63) (2 ^ 63) h.force f) (omega arith);
  torque = within_wider (sum_of w.torque torque) (n * 2 ^ 93 + 2 ^ 93) ((n + 1) * 2 ^ 93) (sum_within w.torque torque (n * 2 ^ 93) (2 ^ 93) h.torque t) (omega arith);
}

-- one more meeting adds at most one contact's worth, where the clump has a part in it
load_with-within : (s : SceneValue) (c n : ℕ) (w : Load) (m : Meeting) → IsSmall m.push → IsLoadOf n w →
    IsLoadOf (n + one_if (involves s c m.pair)) (load_with s c w m)
unfolding load_with
load_with-within s c n w m small h =
    elim (cases_Bool (first_clump s m.pair == c)) [
      | inl e ↦ rw e (plus_within n w m.push.force m.push.torque_a h small.force small.torque_a)
      | inr e ↦ elim (cases_Bool (is_second s c m.pair)) [
        | inl f ↦ rw (e, f) (plus_within n w (opposed m.push.force) m.push.torque_b h (opposed_within m.push.force (2 ^ 63) small.force) small.torque_b)
        | inr f ↦ rw (e, f) (subst (λ k. IsLoadOf k w) (sym (add-zero n)) h)
      ]
    ]

-- the pairs of some meetings
abbrev pub pairs_in : List Meeting → List Pair
pairs_in ms = map (λ (m : Meeting). m.pair) ms

fold-within : (s : SceneValue) (c n : ℕ) (w : Load) (ms : List Meeting) → All (λ (m : Meeting). IsSmall m.push) ms → IsLoadOf n w →
    IsLoadOf (n + pair_count s c (pairs_in ms)) (fold (load_with s c) w ms)
unfolding pair_count
fold-within s c n w [] small h = subst (λ k. IsLoadOf k w) (sym (add-zero n)) h
fold-within s c n w (m ∷ ms) small h =
    let e : (n + one_if (involves s c m.pair)) + pair_count s c (pairs_in ms) ≡ n + (one_if (involves s c m.pair) + pair_count s c (pairs_in ms)) = omega arith in
    subst (λ k. IsLoadOf k (fold (load_with s c) (load_with s c w m) ms)) e
    (fold-within s c (n + one_if (involves s c m.pair)) (load_with s c w m) ms
    (All-tail (λ (x : Meeting). IsSmall x.push) m ms small)
    (load_with-within s c n w m (All-head (λ (x : Meeting). IsSmall x.push) m ms small) h))

-- a meeting is of the pair that met
meeting_count : (s : SceneValue) (bodies : List Body) (centers : List Vec3) (p : Pair) (h : Option Vec3) (c : ℕ) (rest : List Meeting) (ps : List Pair) →
    pair_count s c (pairs_in rest) ≤ pair_count s c ps →
    pair_count s c (pairs_in (cons_option (meeting s bodies centers p h) rest)) ≤ pair_count s c (p ∷ ps)
unfolding meeting pair_count
meeting_count s bodies centers p h c rest ps le =
    elim (touch_of s centers p) as (λ o. pair_count s c (pairs_in (cons_option (option_map (λ (t : Touch). record { pair = p; push = push_of s bodies p t (unwrap_or h (narrowed no_vector)) }) o) rest)) ≤ one_if (involves s c p) + pair_count s c ps)
    [ None ↦ omega (arith, le) | Some t ↦ omega (arith, le) ]

-- a clump has no more meetings than pairs
pub meetings_count : (s : SceneValue) (bodies : List Body) (centers : List Vec3) (held : List Held) (c : ℕ) (ps : List Pair) →
    pair_count s c (pairs_in (meetings s bodies centers held ps)) ≤ pair_count s c ps
unfolding meetings
meetings_count s bodies centers held c [] = unfold pair_count in omega arith
meetings_count s bodies centers held c (p ∷ ps) =
    meeting_count s bodies centers p (held_at held p) c (filter_map (λ q. meeting s bodies centers q (held_at held q)) ps) ps (meetings_count s bodies centers held c ps)

-- the load of each clump is within the bounds of the advance
pub load_on-within : (s : SceneValue) (c : ℕ) (ms : List Meeting) → All (λ (m : Meeting). IsSmall m.push) ms → pair_count s c (pairs_in ms) ≤ most_pairs →
    IsLoadOf most_pairs (load_on s ms c)
unfolding load_on
load_on-within s c ms small few =
    let none : IsLoadOf 0 no_load = record { force = record { x = omega arith; y = omega arith; z = omega arith }; torque = record { x = omega arith; y = omega arith; z = omega arith } } in
    let h : IsLoadOf (0 + pair_count s c (pairs_in ms)) (fold (load_with s c) no_load ms) = fold-within s c 0 no_load ms small none in
    let l : 0 + pair_count s c (pairs_in ms) ≤ most_pairs = omega arith in
    record {
      force = within_wider (fold (load_with s c) no_load ms).force ((0 + pair_count s c (pairs_in ms)) * 2 ^ 63) (most_pairs * 2 ^ 63) h.force (omega arith);
      torque = within_wider (fold (load_with s c) no_load ms).torque ((0 + pair_count s c (pairs_in ms)) * 2 ^ 93) (most_pairs * 2 ^ 93) h.torque (omega arith);
    }
