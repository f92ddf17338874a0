-- A step leaves sound bodies: each clump that it advances is within the limits and the box.
use Rattle.std.proofs.Common.{◌≡◌, ℕ, zero, suc, ◌+◌, ◌<◌, Bool, true, false, List, [], ◌∷◌, length, drop, get_or, Result, Ok, Err, if◌then◌else◌, ap, refl, arith}
use Rattle.std.specs.Prelude.{IfOk}
use Rattle.dem_num.specs.declared.vector.Wide3.{Wide3}
use Rattle.dem_num.specs.Vectors.{widened, narrowed, Within}
use Rattle.dem_num.specs.Rotations.{IsOrientation}
use Rattle.dem_model.specs.SceneValue.{SceneValue}
use Rattle.dem_model.specs.Advance.{is_over, leaves_box, swings, body_with, limited, advance_of}
use Rattle.dem_model.specs.Centers.{body_at, still_body}
use Rattle.dem_model.specs.Motion.{AreSound}
use Rattle.dem_model.specs.Sound.{IsBodyOf}
use Rattle.dem_model.specs.Spheres.{balls_of}
use Rattle.dem_model.specs.Step.{clump_at, no_clump, first_load, ended, joined, advanced_from}
use Rattle.dem_model.specs.declared.law.Load.{Load}
use Rattle.dem_model.specs.declared.shape.Ball.{Ball}
use Rattle.dem_model.specs.declared.state.Body.{Body}
use Rattle.dem_model.specs.declared.state.Clump.{Clump}
use Rattle.dem_model.specs.declared.state.End.{End}
use Rattle.dem_model.specs.declared.state.EndKind.{EndKind}
use Rattle.dem_model.specs.declared.state.EndKind.TheVariants.{Speed, Spin, Domain, Swing}
use Rattle.dem_force.specs.Placed.{IsInside, IsPlaced}
use Rattle.dem_force.proofs.LimitFacts.{is_over-within, leaves_box-inside}
use Rattle.dem_save.proofs.TurnFacts.{turn-orientation}

-- ---- one clump

-- a body that passes no limit is placed
limits-placed : (s : SceneValue) (balls : List Ball) (new : Body) (fast spun out swung : Bool)
    → (fast ≡ false → Within (widened new.v) s.speed) → (spun ≡ false → Within (widened new.w) s.spin) → (out ≡ false → IsInside s balls new) → IsOrientation new.q
    → IfOk (if fast then Err Speed else (if spun then Err Spin else (if out then Err Domain else (if swung then Err Swing else Ok new)))) (IsPlaced s balls)
limits-placed s balls new true spun out swung v w inside q = tt
limits-placed s balls new false true out swung v w inside q = tt
limits-placed s balls new false false true swung v w inside q = tt
limits-placed s balls new false false false true v w inside q = tt
limits-placed s balls new false false false false v w inside q = record {
  body = record { v = v refl; w = w refl; q = record { low_le = q.long_enough; le_high = q.short_enough }; p = (inside refl).place };
  centers = (inside refl).centers;
}

-- a vector keeps its size in the narrower form
narrowed-within : (a : Wide3) (m : ℕ) → Within a m → Within (widened (narrowed a)) m
narrowed-within a m h = record { x = h.x; y = h.y; z = h.z }

-- a step within the limits leaves a placed body
limited-placed : (s : SceneValue) (balls : List Ball) (b : Body) (v w : Wide3) → IsOrientation b.q → IfOk (limited s balls b v w) (IsPlaced s balls)
unfolding limited body_with
limited-placed s balls b v w q =
    limits-placed s balls (body_with b v w) (is_over s.speed v) (is_over s.spin w) (leaves_box s balls (body_with b v w)) (swings s.spin balls b (body_with b v w))
    (λ e. narrowed-within v s.speed (is_over-within s.speed v e))
    (λ e. narrowed-within w s.spin (is_over-within s.spin w e))
    (λ e. leaves_box-inside s balls (body_with b v w) e)
    (turn-orientation b.q w q)

-- a placed body is sound for a clump with those spheres
placed-sound : (s : SceneValue) (c : Clump) (r : Result Body EndKind) → IfOk r (IsPlaced s (balls_of s.templates c.t)) → IfOk r (IsBodyOf s c)
placed-sound s c (Ok b) h = record { body = h.body; centers = h.centers }
placed-sound s c (Err e) h = tt

-- the step of a clump leaves a sound body
advance-sound : (s : SceneValue) (c : Clump) (b : Body) (load : Load) → IsBodyOf s c b → IfOk (advance_of s c b load) (IsBodyOf s c)
unfolding advance_of
advance-sound s c b load h =
    placed-sound s c _
    (limited-placed s (balls_of s.templates c.t) b _ _
    (record { long_enough = h.body.q.low_le; short_enough = h.body.q.le_high }))

-- ---- all clumps

-- there is a body for each of these clumps, and it is sound for it
abbrev pub EachSound : SceneValue → List Clump → List Body → Type 0
EachSound s [] bs = bs ≡ []
EachSound s (c ∷ cs) [] = ⊥
EachSound s (c ∷ cs) (b ∷ bs) = IsBodyOf s c b × EachSound s cs bs

ended-sound : (s : SceneValue) (c : Clump) (step k : ℕ) (r : Result Body EndKind) → IfOk r (IsBodyOf s c) → IfOk (ended step k r) (IsBodyOf s c)
unfolding ended
ended-sound s c step k (Ok b) h = h
ended-sound s c step k (Err e) h = tt

joined-sound : (s : SceneValue) (c : Clump) (cs : List Clump) (r : Result Body End) (rest : Result (List Body) End) → IfOk r (IsBodyOf s c) → IfOk rest (EachSound s cs)
    → IfOk (joined r rest) (EachSound s (c ∷ cs))
unfolding joined
joined-sound s c cs (Err e) rest h k = tt
joined-sound s c cs (Ok b) (Err e) h k = tt
joined-sound s c cs (Ok b) (Ok bs) h k = (h, k)

-- the step of all clumps leaves sound bodies
pub advanced-sound : (s : SceneValue) (step k : ℕ) (cs : List Clump) (bs : List Body) (ws : List Load) → EachSound s cs bs → IfOk (advanced_from s step k cs bs ws) (EachSound s cs)
unfolding advanced_from
advanced-sound s step k [] bs ws h = refl
advanced-sound s step k (c ∷ cs) [] ws h = absurd h
advanced-sound s step k (c ∷ cs) (b ∷ bs) ws h =
    joined-sound s c cs (ended step k (advance_of s c b (first_load ws))) (advanced_from s step (k + 1) cs bs (drop 1 ws))
    (ended-sound s c step k (advance_of s c b (first_load ws)) (advance-sound s c b (first_load ws) h.0))
    (advanced-sound s step (k + 1) cs bs (drop 1 ws) h.1)

-- ---- by number

each-from : (s : SceneValue) (cs : List Clump) (bs : List Body) → length bs ≡ length cs → ((k : ℕ) → k < length cs → IsBodyOf s (get_or cs k no_clump) (get_or bs k still_body)) → EachSound s cs bs
each-from s [] [] e h = refl
each-from s [] (b ∷ bs) e h = absurd (omega arith)
each-from s (c ∷ cs) [] e h = absurd (omega arith)
each-from s (c ∷ cs) (b ∷ bs) e h = (h 0 (omega arith), each-from s cs bs (omega arith) (λ k lt. h (suc k) (omega arith)))

each-count : (s : SceneValue) (cs : List Clump) (bs : List Body) → EachSound s cs bs → length bs ≡ length cs
each-count s [] bs h = ap length h
each-count s (c ∷ cs) [] h = absurd h
each-count s (c ∷ cs) (b ∷ bs) h = ap suc (each-count s cs bs h.1)

each-at : (s : SceneValue) (cs : List Clump) (bs : List Body) → EachSound s cs bs → (k : ℕ) → k < length cs → IsBodyOf s (get_or cs k no_clump) (get_or bs k still_body)
each-at s [] bs h k lt = absurd (omega arith)
each-at s (c ∷ cs) [] h k lt = absurd h
each-at s (c ∷ cs) (b ∷ bs) h zero lt = h.0
each-at s (c ∷ cs) (b ∷ bs) h (suc k) lt = each-at s cs bs h.1 k (omega arith)

-- sound bodies, one by one and by their numbers
pub each-of : (s : SceneValue) (bodies : List Body) → AreSound s bodies → EachSound s s.clumps bodies
unfolding clump_at body_at
each-of s bodies h = each-from s s.clumps bodies h.count h.each

pub sound-of : (s : SceneValue) (bodies : List Body) → EachSound s s.clumps bodies → AreSound s bodies
unfolding clump_at body_at
sound-of s bodies h = record { count = each-count s s.clumps bodies h; each = each-at s s.clumps bodies h }
