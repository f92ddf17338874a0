-- What adding a push to one or two loads comes to.
use Rattle.std.proofs.Common.{◌≡◌, ◌≢◌, ℕ, ◌<◌, ◌≤◌, List, length, get_or, set, refl, sym, ap, ◌∙◌, arith, subst, zero-add, inl, inr}
use Rattle.std.specs.Prelude.{nat_lt, ◌==◌}
use Rattle.std.proofs.lemmas.Bool.{cases_eq, ne_eqb, eq-eqb, lt-ltb, le-ltb, and_parts, not-true, eqb-false}
use Rattle.std.proofs.lemmas.List.{length-set, get_or-set_same, get_or-set_other, ext_get_or}
use Rattle.std.proofs.lemmas.List.FromFn.{length-map-range_with_len, get_or-map-range_with_len}
use Rattle.dem_num.specs.Vectors.{opposed}
use Rattle.dem_model.specs.SceneValue.{SceneValue}
use Rattle.dem_model.specs.Motion.{IsPair}
use Rattle.dem_model.specs.Pairs.{sphere_count, sphere_at, clumps_meet, apart}
use Rattle.dem_model.specs.Step.{Meeting, no_load, load_plus, first_clump, is_second, load_with, loads_with}
use Rattle.dem_model.specs.declared.law.Load.{Load}
use Rattle.dem_model.specs.declared.state.Pair.{Pair}

-- the two spheres of a pair are of two clumps
pub two_clumps : (s : SceneValue) (p : Pair) → IsPair s p → p.b < sphere_count s → (sphere_at s p.a).clump ≢ (sphere_at s p.b).clump
unfolding apart clumps_meet
two_clumps s p h lt =
    let both = rw (lt-ltb p.b (sphere_count s) lt) at h.is_apart in
    let meet = (and_parts (nat_lt p.a p.b) _ both).1 in
    let other = not-true ((sphere_at s p.a).clump == (sphere_at s p.b).clump) (and_parts _ _ meet).0 in
    eqb-false (sphere_at s p.a).clump (sphere_at s p.b).clump other

-- the first clump's load with the meeting
at_first : (s : SceneValue) (c : ℕ) (w : Load) (m : Meeting) → first_clump s m.pair ≡ c → load_with s c w m ≡ load_plus w m.push.force m.push.torque_a
unfolding load_with
at_first s c w m e = rw (eq-eqb (first_clump s m.pair) c e) refl

-- the second clump's load with the meeting
at_second : (s : SceneValue) (c : ℕ) (w : Load) (m : Meeting) → (first_clump s m.pair ≢ c) → m.pair.b < sphere_count s → (sphere_at s m.pair.b).clump ≡ c →
    load_with s c w m ≡ load_plus w (opposed m.push.force) m.push.torque_b
unfolding load_with is_second
at_second s c w m ne lt e = rw (ne_eqb (first_clump s m.pair) c ne, lt-ltb m.pair.b (sphere_count s) lt, eq-eqb (sphere_at s m.pair.b).clump c e) refl

-- another clump's load stays
at_other : (s : SceneValue) (c : ℕ) (w : Load) (m : Meeting) → (first_clump s m.pair ≢ c) → m.pair.b < sphere_count s → ((sphere_at s m.pair.b).clump ≢ c) → load_with s c w m ≡ w
unfolding load_with is_second
at_other s c w m ne lt other = rw (ne_eqb (first_clump s m.pair) c ne, lt-ltb m.pair.b (sphere_count s) lt, ne_eqb (sphere_at s m.pair.b).clump c other) refl

at_wall : (s : SceneValue) (c : ℕ) (w : Load) (m : Meeting) → (first_clump s m.pair ≢ c) → sphere_count s ≤ m.pair.b → load_with s c w m ≡ w
unfolding load_with is_second
at_wall s c w m ne le = rw (ne_eqb (first_clump s m.pair) c ne, le-ltb m.pair.b (sphere_count s) le) refl

-- the loads with a meeting, one by one
loads_at : (s : SceneValue) (ws : List Load) (m : Meeting) (c : ℕ) → c < length ws → get_or (loads_with s ws m) c no_load ≡ load_with s c (get_or ws c no_load) m
unfolding loads_with
loads_at s ws m c lt = get_or-map-range_with_len (λ k. load_with s k (get_or ws k no_load) m) 0 (length ws) c c no_load lt (zero-add c)

length-loads_with : (s : SceneValue) (ws : List Load) (m : Meeting) → length (loads_with s ws m) ≡ length ws
unfolding loads_with
length-loads_with s ws m = length-map-range_with_len (λ k. load_with s k (get_or ws k no_load) m) 0 (length ws)

-- a push of a sphere on a wall changes one load
pub one_load : (s : SceneValue) (ws : List Load) (m : Meeting) (a : ℕ) → a ≡ first_clump s m.pair → a < length ws → sphere_count s ≤ m.pair.b →
    set ws a (load_plus (get_or ws a no_load) m.push.force m.push.torque_a) ≡ loads_with s ws m
one_load s ws m a e lt le =
    let new = load_plus (get_or ws a no_load) m.push.force m.push.torque_a in
    ext_get_or no_load (set ws a (load_plus (get_or ws a no_load) m.push.force m.push.torque_a)) (loads_with s ws m)
    (length-set ws a (load_plus (get_or ws a no_load) m.push.force m.push.torque_a) ∙ sym (length-loads_with s ws m))
    (λ c in_set.
    let there : c < length ws = omega (arith, length-set ws a (load_plus (get_or ws a no_load) m.push.force m.push.torque_a)) in
    elim (cases_eq c a) [
      | inl same ↦
          subst (λ k. get_or (set ws a (load_plus (get_or ws a no_load) m.push.force m.push.torque_a)) k no_load ≡ get_or (loads_with s ws m) k no_load) (sym same)
          (get_or-set_same ws a (load_plus (get_or ws a no_load) m.push.force m.push.torque_a) no_load lt
          ∙ sym (at_first s a (get_or ws a no_load) m (sym e))
          ∙ sym (loads_at s ws m a lt))
      | inr ne ↦
          get_or-set_other ws a c (load_plus (get_or ws a no_load) m.push.force m.push.torque_a) no_load ne
          ∙ sym (at_wall s c (get_or ws c no_load) m (λ f. ne (sym f ∙ sym e)) le)
          ∙ sym (loads_at s ws m c there)
    ])

two_sets : (s : SceneValue) (ws : List Load) (m : Meeting) (a b : ℕ) (new : Load) → a ≡ first_clump s m.pair → b ≡ (sphere_at s m.pair.b).clump → a ≢ b →
    a < length ws → b < length ws → m.pair.b < sphere_count s →
    get_or (set ws a new) b no_load ≡ get_or ws b no_load → new ≡ load_with s a (get_or ws a no_load) m →
    set (set ws a new) b (load_plus (get_or (set ws a new) b no_load) (opposed m.push.force) m.push.torque_b) ≡ loads_with s ws m
two_sets s ws m a b new ea eb ne lta ltb sphere before first =
    let other : Load = load_plus (get_or (set ws a new) b no_load) (opposed m.push.force) m.push.torque_b in
    let size : length (set (set ws a new) b other) ≡ length ws = length-set (set ws a new) b other ∙ length-set ws a new in
    ext_get_or no_load (set (set ws a new) b other) (loads_with s ws m) (size ∙ sym (length-loads_with s ws m))
    (λ c in_set.
    let there : c < length ws = omega (arith, size) in
    elim (cases_eq c b) [
      | inl same ↦
          subst (λ k. get_or (set (set ws a new) b other) k no_load ≡ get_or (loads_with s ws m) k no_load) (sym same)
          (get_or-set_same (set ws a new) b other no_load (omega (arith, length-set ws a new))
          ∙ ap (λ w. load_plus w (opposed m.push.force) m.push.torque_b) before
          ∙ sym (at_second s b (get_or ws b no_load) m (λ f. ne (ea ∙ f)) sphere (sym eb))
          ∙ sym (loads_at s ws m b ltb))
      | inr off_b ↦
          get_or-set_other (set ws a new) b c other no_load off_b
          ∙ elim (cases_eq c a) [
            | inl same ↦
                subst (λ k. get_or (set ws a new) k no_load ≡ get_or (loads_with s ws m) k no_load) (sym same)
                (get_or-set_same ws a new no_load lta ∙ first ∙ sym (loads_at s ws m a lta))
            | inr off_a ↦
                get_or-set_other ws a c new no_load off_a
                ∙ sym (at_other s c (get_or ws c no_load) m (λ f. off_a (sym f ∙ sym ea)) sphere (λ f. off_b (sym f ∙ sym eb)))
                ∙ sym (loads_at s ws m c there)
          ]
    ])

-- a push between two spheres changes two loads
pub two_loads : (s : SceneValue) (ws : List Load) (m : Meeting) (a b : ℕ) → a ≡ first_clump s m.pair → b ≡ (sphere_at s m.pair.b).clump → a ≢ b →
    a < length ws → b < length ws → m.pair.b < sphere_count s →
    set (set ws a (load_plus (get_or ws a no_load) m.push.force m.push.torque_a)) b
    (load_plus (get_or (set ws a (load_plus (get_or ws a no_load) m.push.force m.push.torque_a)) b no_load) (opposed m.push.force) m.push.torque_b)
    ≡ loads_with s ws m
two_loads s ws m a b ea eb apart_ab lta ltb sphere =
    two_sets s ws m a b (load_plus (get_or ws a no_load) m.push.force m.push.torque_a) ea eb apart_ab lta ltb sphere
    (get_or-set_other ws a b (load_plus (get_or ws a no_load) m.push.force m.push.torque_a) no_load (λ f. apart_ab (sym f)))
    (sym (at_first s a (get_or ws a no_load) m (sym ea)))
