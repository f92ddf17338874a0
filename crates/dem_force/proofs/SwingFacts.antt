-- No step turns a sphere's offset by more than its swing limit, so a step that keeps speed, spin and box keeps all limits.
use Rattle.std.proofs.Common.{◌≡◌, ℕ, ◌<◌, ◌≤◌, Bool, true, false, List, Result, Ok, Err, get_or, unsigned_abs, if◌then◌else◌, arith, refl, sym, subst}
use Rattle.std.specs.Prelude.{◌≢◌}
use Rattle.std.proofs.lemmas.Bool.Decides.{nat_tests}
use Rattle.std.proofs.lemmas.List.Folds.{list_any_none}
use Rattle.dem_num.specs.declared.vector.Wide3.{Wide3}
use Rattle.dem_num.specs.Vectors.{widened, difference_of, Within}
use Rattle.dem_num.specs.Rotations.{quat_norm2_of, turned_of, arm_of, swing_limit_of}
use Rattle.dem_turn.proofs.StepSwing.{step_swings, step_some}
use Rattle.dem_model.specs.SceneValue.{SceneValue}
use Rattle.dem_model.specs.Advance.{is_over, leaves_box, swings, body_with, limited}
use Rattle.dem_model.specs.declared.shape.Ball.{Ball}
use Rattle.dem_model.specs.declared.state.Body.{Body}
use Rattle.dem_model.specs.declared.state.EndKind.{EndKind}
use Rattle.dem_model.specs.declared.state.EndKind.TheVariants.{Speed, Spin, Domain, Swing}
use Rattle.dem_force.proofs.LimitFacts.{is_over-within}

-- a vector within a limit isn't over it
within-not_over : (limit : ℕ) (a : Wide3) → Within a limit → is_over limit a ≡ false
unfolding is_over
within-not_over limit a h =
    let x : unsigned_abs a.x ≤ limit = h.x in
    let y : unsigned_abs a.y ≤ limit = h.y in
    let z : unsigned_abs a.z ≤ limit = h.z in
    grind (arith, nat_tests)

-- no sphere swings too far in a step with a spin within the limit
pub none_swings : (spin : ℕ) (balls : List Ball) (b : Body) (v w : Wide3) → 0 < quat_norm2_of b.q → Within w spin → swings spin balls b (body_with b v w) ≡ false
unfolding swings body_with
none_swings spin balls b v w p h =
    list_any_none
    (λ (x : Ball). is_over (swing_limit_of spin (arm_of (widened x.at))) (difference_of (turned_of (body_with b v w).q (widened x.at)) (turned_of b.q (widened x.at)))) balls
    (λ i d lt. within-not_over _ _ (step_swings b.q w (widened (get_or balls i d).at) spin p h))

-- what a step makes that is within speed and spin, and is kept where it doesn't leave the box
pub limited-from : (s : SceneValue) (balls : List Ball) (b : Body) (v w : Wide3) (new : Body) (r : Result Body EndKind) → is_over s.speed v ≡ false → is_over s.spin w ≡ false
    → 0 < quat_norm2_of b.q → new ≡ body_with b v w → r ≡ (if leaves_box s balls new then Err Domain else Ok new) → r ≡ limited s balls b v w
unfolding limited
limited-from s balls b v w new r fast spun p e h =
    rw (fast, spun, none_swings s.spin balls b v w p (is_over-within s.spin w spun))
    (subst (λ (x : Body). r ≡ (if leaves_box s balls x then Err Domain else Ok x)) e h)

-- a body whose quaternion has some length
abbrev pub CanTurn : Body → Type 0
CanTurn b = 0 < quat_norm2_of b.q

-- the body after a step can turn again, or the step passes another limit than the swing limit
abbrev pub Turns : Result Body EndKind → Type 0
Turns (Ok b) = CanTurn b
Turns (Err e) = e ≢ Swing

by_limits : (fast spun out swung : Bool) (new : Body) → CanTurn new → (spun ≡ false → swung ≡ false)
    → Turns (if fast then Err Speed else (if spun then Err Spin else (if out then Err Domain else (if swung then Err Swing else Ok new))))
by_limits true spun out swung new p h = λ (e : Speed ≡ Swing). cc
by_limits false true out swung new p h = λ (e : Spin ≡ Swing). cc
by_limits false false true swung new p h = λ (e : Domain ≡ Swing). cc
by_limits false false false swung new p h = subst (λ (t : Bool). Turns (if t then Err Swing else Ok new)) (sym (h refl)) p

-- the body after a step can turn again
body_with-turns : (b : Body) (v w : Wide3) → CanTurn b → CanTurn (body_with b v w)
unfolding body_with
body_with-turns b v w p = step_some b.q w p

-- a step within the limits turns
pub limited-turns : (s : SceneValue) (balls : List Ball) (b : Body) (v w : Wide3) → CanTurn b → Turns (limited s balls b v w)
unfolding limited
limited-turns s balls b v w p =
    by_limits (is_over s.speed v) (is_over s.spin w) (leaves_box s balls (body_with b v w)) (swings s.spin balls b (body_with b v w)) (body_with b v w) (body_with-turns b v w p)
    (λ spun. none_swings s.spin balls b v w p (is_over-within s.spin w spun))
