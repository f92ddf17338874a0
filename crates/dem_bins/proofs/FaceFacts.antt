-- A sphere whose gap is no less than the distance of nearness isn't near a plane.
use Rattle.std.proofs.Common.{◌≡◌, ℕ, ◌+◌, ◌*◌, ◌-◌, ◌<◌, ◌≤◌, List, [], refl, sym, ap, ◌∙◌, arith, subst, ℤ, pos, false}
use Rattle.std.specs.Prelude.{int_lt}
use Rattle.std.proofs.lemmas.Bool.{le-ltb, lt-ltb, and_right}
use Rattle.dem_num.specs.Numbers.{shifted}
use Rattle.dem_num.specs.declared.vector.Vec3.{Vec3}
use Rattle.dem_num.specs.Vectors.{widened, dot_of, difference_of}
use Rattle.dem_model.specs.SceneValue.{SceneValue}
use Rattle.dem_model.specs.Sound.{IsSound}
use Rattle.dem_model.specs.Centers.{center_at}
use Rattle.dem_model.specs.Motion.{IsPair}
use Rattle.dem_model.specs.Near.{near, form_near, plane_near, wall_near_of, reach_of, drift_of}
use Rattle.dem_model.specs.Pairs.{sphere_count, sphere_at, limit_of, wall_at, apart, pair_of}
use Rattle.dem_model.specs.Touch.{gap_of}
use Rattle.dem_model.specs.declared.shape.Form.{Form}
use Rattle.dem_model.specs.declared.state.Pair.{Pair}
use Rattle.dem_margin.specs.NearList.{pair_if_near}
use Rattle.dem_bins.specs.Faces.{IsFaceOf}
use Rattle.dem_bins.specs.declared.facing.Face.{Face}
use Rattle.dem_bins.proofs.BlockFacts.{sphere_count-some}

-- the first sphere and a wall are a pair
pub first-wall : (s : SceneValue) (b : ℕ) → IsSound s → sphere_count s ≤ b → b < limit_of s → IsPair s (pair_of 0 b)
unfolding apart
first-wall s b sound later there =
    let some : 0 < sphere_count s = sphere_count-some s sound in
    record {
      first = some;
      second = there;
      is_apart = rw (lt-ltb 0 b (omega arith), le-ltb b (sphere_count s) later) refl;
    }

-- the distance of nearness is three times the reach, less twice the radius
pub far-distance : (s : SceneValue) (drift i : ℕ) → 3 * reach_of s drift i - 2 * (sphere_at s i).ball.r ≡ (sphere_at s i).ball.r + 3 * drift_of s drift i
unfolding reach_of
far-distance s drift i = omega arith

pub far-apart : (s : SceneValue) (drift i : ℕ) → 2 * (sphere_at s i).ball.r ≤ 3 * reach_of s drift i
unfolding reach_of
far-apart s drift i = omega arith

-- a sphere that is that far in front isn't near
pub far-near : (s : SceneValue) (drift : ℕ) (cs : List Vec3) (p : Pair) (f : Face) (gap : ℤ) (most : ℕ) → sphere_count s ≤ p.b → IsFaceOf (wall_at s p.b) f →
    gap ≡ shifted (dot_of (widened f.normal) (difference_of (widened (center_at cs p.a)) (widened f.at))) 30 →
    most ≡ (sphere_at s p.a).ball.r + 3 * drift_of s drift p.a → int_lt gap (pos most) ≡ false → near s drift cs p ≡ false
unfolding near wall_near_of plane_near gap_of
far-near s drift cs p f gap most later face is far_is test =
    let same : gap ≡ gap_of f.at face.dir (center_at cs p.a) = is ∙ ap (λ (u : Vec3). shifted (dot_of (widened u) (difference_of (widened (center_at cs p.a)) (widened f.at))) 30) face.unit in
    let near_is : form_near (wall_at s p.b).form (center_at cs p.a) (sphere_at s p.a).ball.r (drift_of s drift p.a) ≡ false =
    subst (λ (w : Form). form_near w (center_at cs p.a) (sphere_at s p.a).ball.r (drift_of s drift p.a) ≡ false) (sym face.form)
    (subst (λ (z : ℤ). int_lt z (pos ((sphere_at s p.a).ball.r + 3 * drift_of s drift p.a)) ≡ false) same (subst (λ (m : ℕ). int_lt gap (pos m) ≡ false) far_is test)) in
    rw (le-ltb p.b (sphere_count s) later) near_is

-- what isn't near isn't added
pub far-none : (s : SceneValue) (drift : ℕ) (cs : List Vec3) (p : Pair) → near s drift cs p ≡ false → pair_if_near s drift cs p ≡ []
far-none s drift cs p h = rw (h, and_right (apart s p) false refl) refl
