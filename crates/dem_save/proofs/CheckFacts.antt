-- The checks of a state pass exactly where it is fit.
use Rattle.std.proofs.Common.{◌≡◌, ◌∙◌, ℕ, zero, suc, ◌+◌, ◌*◌, ◌^◌, ◌<◌, ◌≤◌, Bool, true, false, List, [], ◌∷◌, length, get_or, Option, Some, None, Ok, Err, All, if◌then◌else◌, cond, inl, inr, sym, ap, refl, subst, arith, unsigned_abs}
use Rattle.std.specs.Prelude.{IfOk, not, ◌&&◌, nat_lt, nat_le, find}
use Rattle.std.specs.List.{position_from, range_with_len, list_all}
use Rattle.std.specs.Option.{option_map_or}
use Rattle.std.proofs.lemmas.Bool.{cases_Bool, and_parts, leb-true, le-leb, lt-ltb, le-ltb, ltb-true, ltb-false, not-false}
use Rattle.std.proofs.lemmas.Bool.Decides.{nat_tests}
use Rattle.std.proofs.lemmas.Iterator.Adapters.{position_from-zero}
use Rattle.std.proofs.lemmas.List.{get_or_default}
use Rattle.std.proofs.lemmas.List.Elements.{All-nil, All-cons}
use Rattle.std.proofs.lemmas.List.Sums.{AllPass-from_list_all, list_all-from_AllPass}
use Rattle.std.proofs.lemmas.Option.{none-some}
use Rattle.dem_num.specs.declared.vector.Vec3.{Vec3}
use Rattle.dem_num.specs.declared.vector.Quat.{Quat}
use Rattle.dem_num.specs.Vectors.{widened, Within}
use Rattle.dem_num.specs.Rotations.{quat_norm2_of, QuatWithin, IsOrientation}
use Rattle.dem_num.proofs.QuatSizes.{quat_within, quat_norm2_le}
use Rattle.dem_model.specs.SceneValue.{SceneValue}
use Rattle.dem_model.specs.Centers.{body_at, still_body}
use Rattle.dem_model.specs.Fit.{IsFit}
use Rattle.dem_model.specs.Motion.{AreSound, IsPair}
use Rattle.dem_model.specs.Pairs.{sphere_count, limit_of, apart}
use Rattle.dem_model.specs.Position.{in_box}
use Rattle.dem_model.specs.Reading.{at_most}
use Rattle.dem_model.specs.ReadingScene.{in_limits, centers_inside, is_inside}
use Rattle.dem_model.specs.ReadingVectors.{each_is, is_bounded, is_long}
use Rattle.dem_model.specs.Sound.{IsFrom, IsBodyOf}
use Rattle.dem_model.specs.Spheres.{balls_of, center_of}
use Rattle.dem_model.specs.Step.{clump_at}
use Rattle.dem_model.specs.declared.limits.TheConstants.{MIN_NORM2, MAX_NORM2}
use Rattle.dem_model.specs.declared.shape.Ball.{Ball}
use Rattle.dem_model.specs.declared.state.Body.{Body}
use Rattle.dem_model.specs.declared.state.Clump.{Clump}
use Rattle.dem_model.specs.declared.state.Held.{Held}
use Rattle.dem_model.specs.declared.state.Pair.{Pair}
use Rattle.dem_model.specs.declared.state.State.{State}
use Rattle.dem_save.specs.Loaded.{is_body_of, unsound_in, is_pair, stray_in, checked_of}
use Rattle.dem_save.specs.declared.fault.SaveFault.TheVariants as saves
use Rattle.dem_frame.proofs.KeptFacts.{IsRead}

-- ---- a body

all_most : (x y z m : ℕ) → (nat_le x m && nat_le y m && nat_le z m) ≡ true → (x ≤ m) × (y ≤ m) × (z ≤ m)
all_most x y z m h = (grind (arith, nat_tests), grind (arith, nat_tests), grind (arith, nat_tests))

all_four : (x y z w m : ℕ) → (nat_le x m && nat_le y m && nat_le z m && nat_le w m) ≡ true → (x ≤ m) × (y ≤ m) × (z ≤ m) × (w ≤ m)
all_four x y z w m h = (grind (arith, nat_tests), grind (arith, nat_tests), grind (arith, nat_tests), grind (arith, nat_tests))

-- a vector of which no component is over a limit is within it, and the other way round
sized-within : (v : Vec3) (m : ℕ) → each_is (at_most m) v ≡ true → Within (widened v) m
unfolding at_most
sized-within v m h = let each = all_most (unsigned_abs v.x) (unsigned_abs v.y) (unsigned_abs v.z) m h in record { x = each.0; y = each.1; z = each.2 }

within-sized : (v : Vec3) (m : ℕ) → Within (widened v) m → each_is (at_most m) v ≡ true
unfolding at_most
within-sized v m h = rw (le-leb (unsigned_abs v.x) m h.x, le-leb (unsigned_abs v.y) m h.y, le-leb (unsigned_abs v.z) m h.z) refl

from-long : (q : Quat) → is_long q ≡ true → IsFrom MIN_NORM2 MAX_NORM2 (quat_norm2_of q)
from-long q h =
    let both = and_parts (nat_le MIN_NORM2 (quat_norm2_of q)) (nat_le (quat_norm2_of q) MAX_NORM2) h in
    record { low_le = leb-true MIN_NORM2 (quat_norm2_of q) both.0; le_high = leb-true (quat_norm2_of q) MAX_NORM2 both.1 }

long-from : (q : Quat) → IsFrom MIN_NORM2 MAX_NORM2 (quat_norm2_of q) → is_long q ≡ true
long-from q h = rw (le-leb MIN_NORM2 (quat_norm2_of q) h.low_le, le-leb (quat_norm2_of q) MAX_NORM2 h.le_high) refl

-- no component of a quaternion whose length is in its range is above 2^31
pub long_bounded : (q : Quat) → is_long q ≡ true → is_bounded q ≡ true
unfolding at_most
long_bounded q h =
    let within : QuatWithin q (2 ^ 31) = quat_within q (2 ^ 31) (from-long q h).le_high in
    rw (le-leb (unsigned_abs q.a) (2 ^ 31) within.a, le-leb (unsigned_abs q.b) (2 ^ 31) within.b, le-leb (unsigned_abs q.c) (2 ^ 31) within.c, le-leb (unsigned_abs q.d) (2 ^ 31) within.d) refl

-- and it turns
pub long_orientation : (q : Quat) → is_long q ≡ true → IsOrientation q
long_orientation q h = let range = from-long q h in record { long_enough = range.low_le; short_enough = range.le_high }

-- a quaternion without a greater component is short
pub bounded_small : (q : Quat) → is_bounded q ≡ true → quat_norm2_of q < 2 ^ 128
unfolding at_most
bounded_small q h =
    let each = all_four (unsigned_abs q.a) (unsigned_abs q.b) (unsigned_abs q.c) (unsigned_abs q.d) (2 ^ 31) h in
    let within : QuatWithin q (2 ^ 31) = record { a = each.0; b = each.1; c = each.2; d = each.3 } in
    let small : quat_norm2_of q ≤ 4 * (2 ^ 31 * 2 ^ 31) = quat_norm2_le q (2 ^ 31) within in
    omega arith

-- a quaternion with a greater component isn't of that length
pub unbounded_long : (q : Quat) → is_bounded q ≡ false → is_long q ≡ false
unbounded_long q h = elim (cases_Bool (is_long q)) [
  | inl long ↦ let bounded = long_bounded q long in absurd (cc)
  | inr short ↦ short
]

-- a body that passes the check is sound for its clump, and the other way round
passed-sound : (s : SceneValue) (c : Clump) (b : Body) → is_body_of s c b ≡ true → IsBodyOf s c b
unfolding is_body_of in_limits is_inside centers_inside
passed-sound s c b h =
    let first = and_parts (each_is (at_most s.speed) b.v && each_is (at_most s.spin) b.w) (is_long b.q && is_inside s b (balls_of s.templates c.t)) h in
    let limits = and_parts (each_is (at_most s.speed) b.v) (each_is (at_most s.spin) b.w) first.0 in
    let second = and_parts (is_long b.q) (is_inside s b (balls_of s.templates c.t)) first.1 in
    let inside = and_parts (in_box s (widened b.p)) (centers_inside s b (balls_of s.templates c.t)) second.1 in
    record {
      body = record { v = sized-within b.v s.speed limits.0; w = sized-within b.w s.spin limits.1; q = from-long b.q second.0; p = inside.0 };
      centers = AllPass-from_list_all (λ (x : Ball). in_box s (center_of b x)) (balls_of s.templates c.t) inside.1;
    }

sound-passed : (s : SceneValue) (c : Clump) (b : Body) → IsBodyOf s c b → is_body_of s c b ≡ true
unfolding is_body_of in_limits is_inside centers_inside
sound-passed s c b h =
    let v : each_is (at_most s.speed) b.v ≡ true = within-sized b.v s.speed h.body.v in
    let w : each_is (at_most s.spin) b.w ≡ true = within-sized b.w s.spin h.body.w in
    let q : is_long b.q ≡ true = long-from b.q h.body.q in
    let p : in_box s (widened b.p) ≡ true = h.body.p in
    let centers : list_all (λ (x : Ball). in_box s (center_of b x)) (balls_of s.templates c.t) ≡ true = list_all-from_AllPass (λ (x : Ball). in_box s (center_of b x)) (balls_of s.templates c.t) h.centers in
    both_true _ _ (both_true _ _ v w) (both_true _ _ q (both_true _ _ p centers))
  where
    both_true : (x y : Bool) → x ≡ true → y ≡ true → (x && y) ≡ true
    both_true x y a b = rw (a, b) refl

-- the check of a clump's body, by what was read of the scene
pub body-checked : (s scene : SceneValue) (bodies : List Body) (k t : ℕ) (d : Body) (balls : List Ball) → scene ≡ s → t ≡ (clump_at scene k).t → balls ≡ balls_of scene.templates t → k < length bodies
    → (in_limits scene (get_or bodies k d) && (is_long (get_or bodies k d).q && is_inside scene (get_or bodies k d) balls)) ≡ is_body_of s (clump_at s k) (body_at bodies k)
unfolding is_body_of body_at
body-checked s scene bodies k t d balls same number read lt =
    let body : Body = get_or bodies k still_body in
    ap (λ (b : Body). in_limits scene b && (is_long b.q && is_inside scene b balls)) (get_or_default bodies k d still_body lt)
    ∙ ap (λ (x : List Ball). in_limits scene body && (is_long body.q && is_inside scene body x)) (read ∙ ap (balls_of scene.templates) number)
    ∙ ap (λ (x : SceneValue). in_limits x body && (is_long body.q && is_inside x body (balls_of x.templates (clump_at x k).t))) same

-- ---- all bodies

-- no number passes where none is found, and the other way round
none-found : (test : ℕ → Bool) (a n : ℕ) → find test (range_with_len a n) ≡ None → (k : ℕ) → k < n → test (a + k) ≡ false
none-found test a zero none k lt = absurd (omega arith)
none-found test a (suc n) none k lt = by (test a) refl k lt none (none-found test (a + 1) n)
  where
    by : (t : Bool) → test a ≡ t → (j : ℕ) → j < suc n → cond t (Some a) (find test (range_with_len (a + 1) n)) ≡ None
        → (find test (range_with_len (a + 1) n) ≡ None → (i : ℕ) → i < n → test (a + 1 + i) ≡ false) → test (a + j) ≡ false
    by true e j l f behind = absurd (none-some a (sym f))
    by false e zero l f behind = let here : a ≡ a + 0 = omega arith in ap test (sym here) ∙ e
    by false e (suc j) l f behind = let there : a + 1 + j ≡ a + suc j = omega arith in ap test (sym there) ∙ behind f j (omega arith)

found-none : (test : ℕ → Bool) (a n : ℕ) → ((k : ℕ) → k < n → test (a + k) ≡ false) → find test (range_with_len a n) ≡ None
found-none test a zero fails = refl
found-none test a (suc n) fails =
    let here : a + 0 ≡ a = omega arith in
    ap (λ b. cond b (Some a) (find test (range_with_len (a + 1) n))) (ap test (sym here) ∙ fails 0 (omega arith))
    ∙ found-none test (a + 1) n (λ k lt. let there : a + 1 + k ≡ a + suc k = omega arith in ap test there ∙ fails (suc k) (omega arith))

-- where no clump has an unsound body, all are sound, and the other way round
all-sound : (s : SceneValue) (bodies : List Body) → length bodies ≡ length s.clumps → unsound_in s bodies ≡ None → AreSound s bodies
unfolding unsound_in
all-sound s bodies count none = record {
  count = count;
  each = λ k lt.
      let here : 0 + k ≡ k = omega arith in
      let fails = none-found (λ j. not (is_body_of s (clump_at s j) (body_at bodies j))) 0 (length s.clumps) none k lt in
      let passed : not (is_body_of s (clump_at s k) (body_at bodies k)) ≡ false = subst (λ j. not (is_body_of s (clump_at s j) (body_at bodies j)) ≡ false) here fails in
      passed-sound s (clump_at s k) (body_at bodies k) (not-false (is_body_of s (clump_at s k) (body_at bodies k)) passed);
}

none-unsound : (s : SceneValue) (bodies : List Body) → AreSound s bodies → unsound_in s bodies ≡ None
unfolding unsound_in
none-unsound s bodies sound =
    found-none (λ j. not (is_body_of s (clump_at s j) (body_at bodies j))) 0 (length s.clumps)
    (λ k lt.
    let here : 0 + k ≡ k = omega arith in
    subst (λ j. not (is_body_of s (clump_at s j) (body_at bodies j)) ≡ false) (sym here)
    (ap not (sound-passed s (clump_at s k) (body_at bodies k) (sound.each k lt))))

-- ---- pairs

-- a pair that passes the check is one of all pairs, and the other way round
passed-pair : (s : SceneValue) (p : Pair) → is_pair s p ≡ true → IsPair s p
unfolding is_pair
passed-pair s p h =
    let first = and_parts (nat_lt p.a (sphere_count s)) (nat_lt p.b (limit_of s) && apart s p) h in
    let second = and_parts (nat_lt p.b (limit_of s)) (apart s p) first.1 in
    record { first = ltb-true p.a (sphere_count s) first.0; second = ltb-true p.b (limit_of s) second.0; is_apart = second.1 }

pair-passed : (s : SceneValue) (p : Pair) → IsPair s p → is_pair s p ≡ true
unfolding is_pair
pair-passed s p h = rw (lt-ltb p.a (sphere_count s) h.first, lt-ltb p.b (limit_of s) h.second, h.is_apart) refl

-- no element passes where none is found, and the other way round
none-placed : {X : Type 0} (test : X → Bool) (i : ℕ) (xs : List X) → position_from test i xs ≡ None → All (λ x. test x ≡ false) xs
none-placed test i [] none = All-nil (λ x. test x ≡ false)
none-placed test i (x ∷ xs) none = by (test x) refl none (none-placed test (i + 1) xs)
  where
    by : (t : Bool) → test x ≡ t → cond t (Some i) (position_from test (i + 1) xs) ≡ None → (position_from test (i + 1) xs ≡ None → All (λ y. test y ≡ false) xs)
        → All (λ y. test y ≡ false) (x ∷ xs)
    by true e f behind = absurd (none-some i (sym f))
    by false e f behind = All-cons (λ y. test y ≡ false) x xs e (behind f)

placed-none : {X : Type 0} (test : X → Bool) (i : ℕ) (xs : List X) → All (λ x. test x ≡ false) xs → position_from test i xs ≡ None
placed-none test i [] fails = refl
placed-none test i (x ∷ xs) fails =
    ap (λ t. cond t (Some i) (position_from test (i + 1) xs)) (fails zero x (omega arith))
    ∙ placed-none test (i + 1) xs (λ k d lt. fails (suc k) d (omega arith))

-- where nothing strays, all pairs may touch, and the other way round
all-pairs : (s : SceneValue) (held : List Held) → stray_in s held ≡ None → All (λ (e : Held). IsPair s e.pair) held
unfolding stray_in
all-pairs s held none =
    let fails = none-placed (λ (e : Held). not (is_pair s e.pair)) 0 held (sym (position_from-zero (λ (e : Held). not (is_pair s e.pair)) held) ∙ none) in
    λ k d lt. passed-pair s (get_or held k d).pair (not-false (is_pair s (get_or held k d).pair) (fails k d lt))

none-stray : (s : SceneValue) (held : List Held) → All (λ (e : Held). IsPair s e.pair) held → stray_in s held ≡ None
unfolding stray_in
none-stray s held pairs =
    position_from-zero (λ (e : Held). not (is_pair s e.pair)) held
    ∙ placed-none (λ (e : Held). not (is_pair s e.pair)) 0 held (λ k d lt. ap not (pair-passed s (get_or held k d).pair (pairs k d lt)))

-- ---- the state

-- what passes all checks is fit, where it is the state of a frame
pub checked-fit : (s : SceneValue) (rows : ℕ) (st : State) → IsRead (length s.clumps) rows st → IfOk (checked_of s st) (IsFit s)
unfolding checked_of
checked-fit s rows st read = by (nat_lt s.steps st.step) (unsound_in s st.bodies) (stray_in s st.held) refl refl refl
  where
    by : (late : Bool) (unsound stray : Option ℕ) → nat_lt s.steps st.step ≡ late → unsound_in s st.bodies ≡ unsound → stray_in s st.held ≡ stray
        → IfOk (if late then Err saves.Step else option_map_or (λ k. Err (saves.Body k)) unsound (option_map_or (λ i. Err (saves.Held i)) stray (Ok st))) (IsFit s)
    by true unsound stray l u t = tt
    by false (Some k) stray l u t = tt
    by false None (Some i) l u t = tt
    by false None None l u t = record {
      step = ltb-false s.steps st.step l;
      bodies = all-sound s st.bodies read.count u;
      ascending = read.ascending;
      pairs = all-pairs s st.held t;
      stored = read.stored;
    }

-- a fit state passes all checks
pub fit-checked : (s : SceneValue) (st : State) → IsFit s st → checked_of s st ≡ Ok st
unfolding checked_of
fit-checked s st fit = rw (le-ltb s.steps st.step fit.step, none-unsound s st.bodies fit.bodies, none-stray s st.held fit.pairs) refl
