-- How far spheres move: in one step, and in several.
use Rattle.std.proofs.Common.{◌≡◌, ℕ, zero, suc, ◌+◌, ◌-◌, ◌*◌, ◌/◌, ◌^◌, ◌<◌, ◌≤◌, arith, ℤ, ◌+ℤ◌, ◌-ℤ◌, unsigned_abs, Bool, true, false, List, [], ◌∷◌, length, get_or, refl, sym, ap, ◌∙◌, subst, add-zero, zero-add, add-one, inl, inr, Some, Result, Ok, Err}
use Rattle.std.specs.Prelude.{All, IfOk, nat_lt, if◌then◌else◌}
use Rattle.std.specs.List.{list_any, Contains}
use Rattle.std.specs.Result.{result_ok}
use Rattle.std.proofs.lemmas.Bool.{cases_Bool}
use Rattle.std.proofs.lemmas.Int.{ints}
use Rattle.std.proofs.lemmas.List.{get_or-map, length-map}
use Rattle.std.proofs.lemmas.List.Elements.{All-append, All-contains, All-map, All-nil, Contains-get_or}
use Rattle.std.proofs.lemmas.List.Folds.{list_any_at}
use Rattle.std.proofs.lemmas.Nat.{mul-le}
use Rattle.std.proofs.lemmas.Option.{option_and_then_some, same_Some, none-some}
use Rattle.std.proofs.lemmas.Result.{IfOk-at_ok}
use Rattle.dem_num.specs.declared.vector.Vec3.{Vec3}
use Rattle.dem_num.specs.declared.vector.Wide3.{Wide3}
use Rattle.dem_num.specs.Numbers.{shifted}
use Rattle.dem_num.specs.Vectors.{widened, narrowed, no_vector, difference_of, shifted_each, Within}
use Rattle.dem_num.specs.Rotations.{turned_of, arm_of, swing_limit_of}
use Rattle.dem_num.proofs.Sizes.{shifted-size, sum_le}
use Rattle.dem_num.proofs.VectorSizes.{within_wider}
use Rattle.dem_model.specs.SceneValue.{SceneValue}
use Rattle.dem_model.specs.Sound.{IsSound}
use Rattle.dem_model.specs.Spheres.{Sphere, sphere_of, balls_of, spheres_of_clump, spheres_from, spheres_of, center_of}
use Rattle.dem_model.specs.Pairs.{all_pairs, sphere_at, sphere_count, no_sphere}
use Rattle.dem_model.specs.Centers.{body_at, still_body, placed, center_at, centers_of}
use Rattle.dem_model.specs.Motion.{AreSound, per_step_of}
use Rattle.dem_model.specs.Near.{drift_of, HasDrifted}
use Rattle.dem_model.specs.Advance.{is_over, leaves_box, swings, position_after, body_with, limited, advance_of}
use Rattle.dem_model.specs.Step.{Meeting, meetings, no_load, no_clump, clump_at, loads_of, ended, joined, advanced_from, state_with, step_with, step_of}
use Rattle.dem_model.specs.Plain.{first_state, state_after, run_after, plain_at}
use Rattle.dem_model.specs.declared.law.Load.{Load}
use Rattle.dem_model.specs.declared.limits.TheConstants.{VOXEL}
use Rattle.dem_model.specs.declared.shape.Ball.{Ball}
use Rattle.dem_model.specs.declared.state.Body.{Body}
use Rattle.dem_model.specs.declared.state.Clump.{Clump}
use Rattle.dem_model.specs.declared.state.End.{End}
use Rattle.dem_model.specs.declared.state.EndKind.{EndKind}
use Rattle.dem_model.specs.declared.state.EndKind.TheVariants.{Speed, Spin, Domain, Swing}
use Rattle.dem_model.specs.declared.state.State.{State}
use Rattle.dem_model.proofs.LoadFacts.{length-loads_of}
use Rattle.dem_force.proofs.LimitFacts.{is_over-within}
use Rattle.dem_plain.proofs.RunFacts.{plain_first}

-- ---- one clump

-- a shifted velocity is at most the speed limit over a voxel, rounded up
shift_le : (v : ℤ) (speed : ℕ) → unsigned_abs v ≤ speed → unsigned_abs (shifted v 16) ≤ (speed + (VOXEL - 1)) / VOXEL
shift_le v speed h = let f : unsigned_abs (shifted v 16) ≤ (unsigned_abs v + 2 ^ 16 - 1) / 2 ^ 16 = shifted-size v 16 in omega arith

-- a shifted velocity that the speed limit allows
shifts_within : (v : Wide3) (speed : ℕ) → Within v speed → Within (shifted_each v 16) ((speed + (VOXEL - 1)) / VOXEL)
shifts_within v speed h = record { x = shift_le v.x speed h.x; y = shift_le v.y speed h.y; z = shift_le v.z speed h.z }

-- what a sum changes by is what its parts change by
parts_move : (p d o n : ℤ) → ((p +ℤ d) +ℤ n) -ℤ (p +ℤ o) ≡ d +ℤ (n -ℤ o)
parts_move p d o n = omega (arith, ints)

-- what a sum changes by, where one part grows and the other is another
sum_moves : (p d o n : ℤ) (m k : ℕ) → unsigned_abs d ≤ m → unsigned_abs (n -ℤ o) ≤ k → unsigned_abs (((p +ℤ d) +ℤ n) -ℤ (p +ℤ o)) ≤ m + k
sum_moves p d o n m k h l =
    let e : ((p +ℤ d) +ℤ n) -ℤ (p +ℤ o) ≡ d +ℤ (n -ℤ o) = parts_move p d o n in
    rw e (sum_le d (n -ℤ o) m k h l)

-- what two limits that weren't passed say, and which body there is then
pub record IsKept (fast swung : Bool) (made new : Body) : Type 0 where
  pub fast_not : fast ≡ false
  pub swung_not : swung ≡ false
  pub same : new ≡ made

-- no limit is passed where there is a body
limits_kept : (fast spun out swung : Bool) (made : Body) →
    IfOk (if fast then Err Speed else (if spun then Err Spin else (if out then Err Domain else (if swung then Err Swing else Ok made)))) (IsKept fast swung made)
limits_kept true spun out swung made = tt
limits_kept false true out swung made = tt
limits_kept false false true swung made = tt
limits_kept false false false true made = tt
limits_kept false false false false made = record { fast_not = refl; swung_not = refl; same = refl }

-- the limits of a clump's step aren't passed where there is a body
pub limited_kept : (s : SceneValue) (balls : List Ball) (b b' : Body) (v w : Wide3) → limited s balls b v w ≡ Ok b' →
    IsKept (is_over s.speed v) (swings s.spin balls b (body_with b v w)) (body_with b v w) b'
unfolding limited
limited_kept s balls b b' v w ok =
    IfOk-at_ok (IsKept (is_over s.speed v) (swings s.spin balls b (body_with b v w)) (body_with b v w)) ok
    (limits_kept (is_over s.speed v) (is_over s.spin w) (leaves_box s balls (body_with b v w)) (swings s.spin balls b (body_with b v w)) (body_with b v w))

-- where no element passes a test, each fails it
none_passes : {X : Type 0} (p : X → Bool) (xs : List X) → list_any p xs ≡ false → All (λ x. p x ≡ false) xs
none_passes p xs h = λ i d lt. elim (cases_Bool (p (get_or xs i d))) [
  | inl t ↦ let some = list_any_at p xs i d lt t in cc
  | inr f ↦ f
]

-- no sphere's turned offset changes by more than its swing limit, where none swings
swings_within : (spin : ℕ) (balls : List Ball) (old new : Body) → swings spin balls old new ≡ false →
    All (λ (x : Ball). Within (difference_of (turned_of new.q (widened x.at)) (turned_of old.q (widened x.at))) (swing_limit_of spin (arm_of (widened x.at)))) balls
unfolding swings
swings_within spin balls old new h = λ i d lt.
    is_over-within (swing_limit_of spin (arm_of (widened (get_or balls i d).at))) (difference_of (turned_of new.q (widened (get_or balls i d).at)) (turned_of old.q (widened (get_or balls i d).at)))
    (none_passes (λ (x : Ball). is_over (swing_limit_of spin (arm_of (widened x.at))) (difference_of (turned_of new.q (widened x.at)) (turned_of old.q (widened x.at)))) balls h i d lt)

-- a sphere moves with its clump, and with its turned offset
center_moves : (s : SceneValue) (b : Body) (v w : Wide3) (x : Ball) → Within v s.speed →
    Within (difference_of (turned_of (body_with b v w).q (widened x.at)) (turned_of b.q (widened x.at))) (swing_limit_of s.spin (arm_of (widened x.at))) →
    Within (difference_of (center_of (body_with b v w) x) (center_of b x)) (per_step_of s x)
unfolding center_of per_step_of body_with position_after
center_moves s b v w x fast swung =
    let d = shifts_within v s.speed fast in
    let m : ℕ = (s.speed + (VOXEL - 1)) / VOXEL in
    let k : ℕ = swing_limit_of s.spin (arm_of (widened x.at)) in
    record {
      x = sum_moves b.p.x (shifted v.x 16) (turned_of b.q (widened x.at)).x (turned_of (body_with b v w).q (widened x.at)).x m k d.x swung.x;
      y = sum_moves b.p.y (shifted v.y 16) (turned_of b.q (widened x.at)).y (turned_of (body_with b v w).q (widened x.at)).y m k d.y swung.y;
      z = sum_moves b.p.z (shifted v.z 16) (turned_of b.q (widened x.at)).z (turned_of (body_with b v w).q (widened x.at)).z m k d.z swung.z;
    }

-- a step within the limits moves no sphere farther than it may move in one step
limited-moves : (s : SceneValue) (balls : List Ball) (b b' : Body) (v w : Wide3) → limited s balls b v w ≡ Ok b' →
    All (λ (x : Ball). Within (difference_of (center_of b' x) (center_of b x)) (per_step_of s x)) balls
limited-moves s balls b b' v w ok =
    let kept = limited_kept s balls b b' v w ok in
    λ i d lt.
    subst (λ (n : Body). Within (difference_of (center_of n (get_or balls i d)) (center_of b (get_or balls i d))) (per_step_of s (get_or balls i d))) (sym kept.same)
    (center_moves s b v w (get_or balls i d) (is_over-within s.speed v kept.fast_not) (swings_within s.spin balls b (body_with b v w) kept.swung_not i d lt))

-- a clump's step moves none of its spheres farther than it may move in one step
pub advance-moves : (s : SceneValue) (c : Clump) (b b' : Body) (w : Load) → advance_of s c b w ≡ Ok b' →
    All (λ (x : Ball). Within (difference_of (center_of b' x) (center_of b x)) (per_step_of s x)) (balls_of s.templates c.t)
unfolding advance_of
advance-moves s c b b' w ok = limited-moves s (balls_of s.templates c.t) b b' _ _ ok

-- ---- all clumps

-- there is a first body and there are others, where there is a whole
record IsJoined (r : Result Body EndKind) (rest : Result (List Body) End) (next : List Body) : Type 0 where
  first : Body
  others : List Body
  head : r ≡ Ok first
  tail : rest ≡ Ok others
  whole : next ≡ first ∷ others

joined_of : (step k : ℕ) (r : Result Body EndKind) (rest : Result (List Body) End) → IfOk (joined (ended step k r) rest) (IsJoined r rest)
unfolding joined ended
joined_of step k (Err kind) rest = tt
joined_of step k (Ok b) (Err e) = tt
joined_of step k (Ok b) (Ok bs) = record { first = b; others = bs; head = refl; tail = refl; whole = refl }

joined_parts : (step k : ℕ) (r : Result Body EndKind) (rest : Result (List Body) End) (next : List Body) → joined (ended step k r) rest ≡ Ok next → IsJoined r rest next
joined_parts step k r rest next ok = IfOk-at_ok (IsJoined r rest) ok (joined_of step k r rest)

-- there is a new body for each clump
advanced_from-count : (s : SceneValue) (step k : ℕ) (cs : List Clump) (bs : List Body) (ws : List Load) (next : List Body) →
    length bs ≡ length cs → length ws ≡ length cs → advanced_from s step k cs bs ws ≡ Ok next → length next ≡ length cs
unfolding advanced_from
advanced_from-count s step k [] bs ws next lb lw ok = IfOk-at_ok (λ (xs : List Body). length xs ≡ 0) ok refl
advanced_from-count s step k (c ∷ cs) [] ws next lb lw ok = absurd (omega arith)
advanced_from-count s step k (c ∷ cs) (b ∷ bs) [] next lb lw ok = absurd (omega arith)
advanced_from-count s step k (c ∷ cs) (b ∷ bs) (w ∷ ws) next lb lw ok =
    let j = joined_parts step k (advance_of s c b w) (advanced_from s step (k + 1) cs bs ws) next ok in
    ap length j.whole ∙ ap suc (advanced_from-count s step (k + 1) cs bs ws j.others (omega arith) (omega arith) j.tail)

-- the new body of each clump is that of its own step
advanced_from-at : (s : SceneValue) (step k : ℕ) (cs : List Clump) (bs : List Body) (ws : List Load) (next : List Body) →
    length bs ≡ length cs → length ws ≡ length cs → advanced_from s step k cs bs ws ≡ Ok next →
    (j : ℕ) → j < length cs → advance_of s (get_or cs j no_clump) (get_or bs j still_body) (get_or ws j no_load) ≡ Ok (get_or next j still_body)
unfolding advanced_from
advanced_from-at s step k [] bs ws next lb lw ok j lt = absurd (omega arith)
advanced_from-at s step k (c ∷ cs) [] ws next lb lw ok j lt = absurd (omega arith)
advanced_from-at s step k (c ∷ cs) (b ∷ bs) [] next lb lw ok j lt = absurd (omega arith)
advanced_from-at s step k (c ∷ cs) (b ∷ bs) (w ∷ ws) next lb lw ok zero lt =
    let p = joined_parts step k (advance_of s c b w) (advanced_from s step (k + 1) cs bs ws) next ok in
    rw p.whole p.head
advanced_from-at s step k (c ∷ cs) (b ∷ bs) (w ∷ ws) next lb lw ok (suc j) lt =
    let p = joined_parts step k (advance_of s c b w) (advanced_from s step (k + 1) cs bs ws) next ok in
    rw p.whole (advanced_from-at s step (k + 1) cs bs ws p.others (omega arith) (omega arith) p.tail j (omega arith))

-- a sphere's clump is there, and the sphere is one of its template's
record StandsIn (s : SceneValue) (x : Sphere) : Type 0 where
  clump : x.clump < length s.clumps
  ball : Contains (balls_of s.templates (clump_at s x.clump).t) x.ball

-- the spheres of one clump
spheres_of_clump-stand : (s : SceneValue) (k : ℕ) → k < length s.clumps → All (StandsIn s) (spheres_of_clump s.templates k (clump_at s k).t)
unfolding spheres_of_clump
spheres_of_clump-stand s k there =
    All-map (StandsIn s) (sphere_of k) (balls_of s.templates (clump_at s k).t)
    (λ j d lt. record { clump = there; ball = Contains-get_or (balls_of s.templates (clump_at s k).t) j d lt })

-- the spheres of the clumps from number k on
spheres_from-stand : (s : SceneValue) (k : ℕ) (cs : List Clump) → k + length cs ≤ length s.clumps →
    ((j : ℕ) → j < length cs → clump_at s (k + j) ≡ get_or cs j no_clump) → All (StandsIn s) (spheres_from s.templates k cs)
unfolding spheres_from
spheres_from-stand s k [] fits same = All-nil (StandsIn s)
spheres_from-stand s k (c ∷ cs) fits same =
    let first : clump_at s k ≡ c = rw add-zero at (same 0 (omega arith)) in
    All-append (StandsIn s) (spheres_of_clump s.templates k c.t) (spheres_from s.templates (k + 1) cs)
    (subst (λ x. All (StandsIn s) (spheres_of_clump s.templates k x.t)) first (spheres_of_clump-stand s k (omega arith)))
    (spheres_from-stand s (k + 1) cs (omega arith)
    (λ j lt. let e : k + suc j ≡ (k + 1) + j = omega arith in subst (λ n. clump_at s n ≡ get_or cs j no_clump) e (same (suc j) (omega arith))))

-- each sphere of a scene
sphere_at-stands : (s : SceneValue) (i : ℕ) → i < sphere_count s → StandsIn s (sphere_at s i)
unfolding sphere_at sphere_count spheres_of clump_at
sphere_at-stands s i there = spheres_from-stand s 0 s.clumps (omega arith) (λ j lt. rw zero-add refl) i no_sphere there

-- the center of a sphere is where its clump's body has it
center_at-placed : (s : SceneValue) (bodies : List Body) (i : ℕ) → i < sphere_count s → center_at (centers_of s bodies) i ≡ placed bodies (sphere_at s i)
unfolding center_at centers_of sphere_at sphere_count
center_at-placed s bodies i lt = get_or-map (placed bodies) (spheres_of s) i no_sphere (narrowed no_vector) lt

-- a sphere moves no farther than it may in one step, where its clump's step is within the limits
sphere_moves : (s : SceneValue) (x : Sphere) (bodies next : List Body) (w : Load) → StandsIn s x →
    advance_of s (clump_at s x.clump) (body_at bodies x.clump) w ≡ Ok (body_at next x.clump) →
    Within (difference_of (widened (placed next x)) (widened (placed bodies x))) (per_step_of s x.ball)
unfolding placed
sphere_moves s x bodies next w there ok =
    All-contains (λ (y : Ball). Within (difference_of (center_of (body_at next x.clump) y) (center_of (body_at bodies x.clump) y)) (per_step_of s y))
    (balls_of s.templates (clump_at s x.clump).t) x.ball (advance-moves s (clump_at s x.clump) (body_at bodies x.clump) (body_at next x.clump) w ok) there.ball

-- where all clumps advance, each sphere moves no farther than it may in one step
pub advanced-drifts : (s : SceneValue) (step : ℕ) (bodies next : List Body) (loads : List Load) → length bodies ≡ length s.clumps → length loads ≡ length s.clumps →
    advanced_from s step 0 s.clumps bodies loads ≡ Ok next → HasDrifted s 1 (centers_of s bodies) (centers_of s next)
unfolding drift_of
advanced-drifts s step bodies next loads lb lw ok = record {
  each = λ i lt.
      let there = sphere_at-stands s i lt in
      let own : advance_of s (clump_at s (sphere_at s i).clump) (body_at bodies (sphere_at s i).clump) (get_or loads (sphere_at s i).clump no_load) ≡ Ok (body_at next (sphere_at s i).clump) =
      unfold clump_at body_at in advanced_from-at s step 0 s.clumps bodies loads next lb lw ok (sphere_at s i).clump there.clump in
      let moves = sphere_moves s (sphere_at s i) bodies next (get_or loads (sphere_at s i).clump no_load) there own in
      rw (center_at-placed s next i lt, center_at-placed s bodies i lt)
      (within_wider _ (per_step_of s (sphere_at s i).ball) (1 * per_step_of s (sphere_at s i).ball) moves (omega arith));
}

-- the bodies of a step are those that all clumps advance to
state_with-bodies : (step : ℕ) (ms : List Meeting) (r : Result (List Body) End) → IfOk (state_with step ms r) (λ (x : State). r ≡ Ok x.bodies)
unfolding state_with
state_with-bodies step ms (Err e) = tt
state_with-bodies step ms (Ok bodies) = refl

-- the meetings of a plain step
meetings_of : SceneValue → State → List Meeting
meetings_of s st = meetings s st.bodies (centers_of s st.bodies) st.held (all_pairs s)

-- a plain step is one of all clumps
step_of-bodies : (s : SceneValue) (st next : State) → step_of s st ≡ Ok next →
    advanced_from s (st.step + 1) 0 s.clumps st.bodies (loads_of s (meetings_of s st)) ≡ Ok next.bodies
unfolding step_of step_with meetings_of
step_of-bodies s st next ok =
    let ms : List Meeting = meetings s st.bodies (centers_of s st.bodies) st.held (all_pairs s) in
    let r : Result (List Body) End = advanced_from s (st.step + 1) 0 s.clumps st.bodies (loads_of s (meetings s st.bodies (centers_of s st.bodies) st.held (all_pairs s))) in
    IfOk-at_ok (λ (x : State). r ≡ Ok x.bodies) ok (state_with-bodies (st.step + 1) ms r)

-- a plain step leaves a body for each clump
pub step-count : (s : SceneValue) (st next : State) → length st.bodies ≡ length s.clumps → step_of s st ≡ Ok next → length next.bodies ≡ length s.clumps
step-count s st next count ok =
    advanced_from-count s (st.step + 1) 0 s.clumps st.bodies (loads_of s (meetings_of s st)) next.bodies count (length-loads_of s (meetings_of s st)) (step_of-bodies s st next ok)

-- in a plain step each sphere moves no farther than it may in one step, where there is a body for each clump
pub step-moves : (s : SceneValue) (st next : State) → length st.bodies ≡ length s.clumps → step_of s st ≡ Ok next →
    HasDrifted s 1 (centers_of s st.bodies) (centers_of s next.bodies)
step-moves s st next count ok =
    advanced-drifts s (st.step + 1) st.bodies next.bodies (loads_of s (meetings_of s st)) count (length-loads_of s (meetings_of s st)) (step_of-bodies s st next ok)

-- in a plain step of sound bodies each sphere moves no farther than it may in one step
pub step-drifts : (s : SceneValue) (st next : State) → IsSound s → AreSound s st.bodies → step_of s st ≡ Ok next →
    HasDrifted s 1 (centers_of s st.bodies) (centers_of s next.bodies)
step-drifts s st next sound bodies ok = step-moves s st next bodies.count ok

-- ---- several steps

-- nothing has moved yet
difference_none : (x : ℤ) → unsigned_abs (x -ℤ x) ≤ 0
difference_none x = omega (arith, ints)

-- one way after another
difference_joins : (x y z : ℤ) (m n : ℕ) → unsigned_abs (y -ℤ x) ≤ m → unsigned_abs (z -ℤ y) ≤ n → unsigned_abs (z -ℤ x) ≤ m + n
difference_joins x y z m n h k = omega (arith, ints)

-- one way after another, on each axis
differences_join : (a b c : Wide3) (m n : ℕ) → Within (difference_of b a) m → Within (difference_of c b) n → Within (difference_of c a) (m + n)
differences_join a b c m n h k = record {
  x = difference_joins a.x b.x c.x m n h.x k.x;
  y = difference_joins a.y b.y c.y m n h.y k.y;
  z = difference_joins a.z b.z c.z m n h.z k.z;
}

-- in no steps nothing moves
pub drifts-none : (s : SceneValue) (centers : List Vec3) → HasDrifted s 0 centers centers
unfolding drift_of
drifts-none s centers = record {
  each = λ i lt.
      let c : Vec3 = center_at centers i in
      within_wider _ 0 (0 * per_step_of s (sphere_at s i).ball) (record { x = difference_none c.x; y = difference_none c.y; z = difference_none c.z }) (omega arith);
}

-- drifts add up
pub drifts-join : (s : SceneValue) (m n : ℕ) (a b c : List Vec3) → HasDrifted s m a b → HasDrifted s n b c → HasDrifted s (m + n) a c
unfolding drift_of
drifts-join s m n a b c h k = record {
  each = λ i lt.
      let p : ℕ = per_step_of s (sphere_at s i).ball in
      within_wider _ (m * p + n * p) ((m + n) * p)
      (differences_join (widened (center_at a i)) (widened (center_at b i)) (widened (center_at c i)) (m * p) (n * p) (h.each i lt) (k.each i lt))
      (omega arith);
}

-- what has drifted has drifted in more steps
pub drifts-wider : (s : SceneValue) (m n : ℕ) (a b : List Vec3) → HasDrifted s m a b → m ≤ n → HasDrifted s n a b
unfolding drift_of
drifts-wider s m n a b h le = record {
  each = λ i lt.
      let p : ℕ = per_step_of s (sphere_at s i).ball in
      within_wider _ (m * p) (n * p) (h.each i lt) (mul-le m p n p le (omega arith));
}

-- a state of the plain run and the one before it
pub record HasBefore (s : SceneValue) (n : ℕ) (late : State) : Type 0 where
  pub before : State
  pub plain : plain_at s n ≡ Some before
  pub step : step_of s before ≡ Ok late

result_ok-some : {T E : Type 0} (r : Result T E) (x : T) → result_ok r ≡ Some x → r ≡ Ok x
result_ok-some (Ok y) x h = ap Ok (same_Some y x h)
result_ok-some (Err e) x h = absurd (none-some x h)

-- a step of the plain run is the plain step
state_after-step : (s : SceneValue) (st next : State) → state_after s st ≡ Some next → step_of s st ≡ Ok next
unfolding state_after
state_after-step s st next h = elim (cases_Bool (nat_lt st.step s.steps)) [
  | inl t ↦ result_ok-some (step_of s st) next (rw t at h)
  | inr f ↦ absurd (none-some next (rw f at h))
]

-- each state but the first has one before it
pub has_before : (s : SceneValue) (n : ℕ) (late : State) → plain_at s (suc n) ≡ Some late → HasBefore s n late
unfolding plain_at run_after
has_before s n late h =
    option_and_then_some (state_after s) (plain_at s n) late h
    (λ (st : State) (is : plain_at s n ≡ Some st) (after : state_after s st ≡ Some late). record { before = st; plain = is; step = state_after-step s st late after })

-- a state of the plain run has a body for each clump
pub plain-count : (s : SceneValue) (n : ℕ) (st : State) → plain_at s n ≡ Some st → length st.bodies ≡ length s.clumps
plain-count s zero st h =
    let e : first_state s ≡ st = same_Some (first_state s) st (sym (plain_first s) ∙ h) in
    subst (λ (x : State). length x.bodies ≡ length s.clumps) e (unfold first_state in length-map s.clumps (λ (c : Clump). c.body))
plain-count s (suc n) st h =
    let p = has_before s n st h in
    step-count s p.before st (plain-count s n p.before p.plain) p.step

-- along the plain run each sphere moves no farther than it may in so many steps
pub run-moves : (s : SceneValue) (n k : ℕ) (early late : State) → plain_at s n ≡ Some early → plain_at s (n + k) ≡ Some late →
    HasDrifted s k (centers_of s early.bodies) (centers_of s late.bodies)
run-moves s n zero early late from to =
    let e : early ≡ late = same_Some early late (sym from ∙ (rw add-zero at to)) in
    subst (λ (x : State). HasDrifted s 0 (centers_of s early.bodies) (centers_of s x.bodies)) e (drifts-none s (centers_of s early.bodies))
run-moves s n (suc k) early late from to =
    let e : n + suc k ≡ suc (n + k) = omega arith in
    let p = has_before s (n + k) late (subst (λ m. plain_at s m ≡ Some late) e to) in
    let so_far : HasDrifted s k (centers_of s early.bodies) (centers_of s p.before.bodies) = run-moves s n k early p.before from p.plain in
    let more : HasDrifted s 1 (centers_of s p.before.bodies) (centers_of s late.bodies) = step-moves s p.before late (plain-count s (n + k) p.before p.plain) p.step in
    let one : k + 1 ≡ suc k = add-one k in
    subst (λ m. HasDrifted s m (centers_of s early.bodies) (centers_of s late.bodies)) one
    (drifts-join s k 1 (centers_of s early.bodies) (centers_of s p.before.bodies) (centers_of s late.bodies) so_far more)

-- along the plain run of a sound scene each sphere moves no farther than it may in so many steps
pub run-drifts : (s : SceneValue) (n k : ℕ) (early late : State) → IsSound s → plain_at s n ≡ Some early → plain_at s (n + k) ≡ Some late →
    HasDrifted s k (centers_of s early.bodies) (centers_of s late.bodies)
run-drifts s n k early late sound from to = run-moves s n k early late from to
