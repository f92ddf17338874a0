-- What a pose says of its clump and of the centers of its spheres.
use Rattle.std.proofs.Common.{◌≡◌, ℕ, ◌*◌, ◌^◌, ◌<◌, ◌≤◌, true, false, List, length, get_or, sym, ap, ◌∙◌, arith, subst}
use Rattle.std.specs.Prelude.{ℤ, pos, negsuc, unsigned_abs, IsTrue, not, ◌&&◌, int_lt}
use Rattle.std.proofs.lemmas.Bool.{and_parts, ltb-true}
use Rattle.std.proofs.lemmas.List.{get_or_default}
use Rattle.dem_num.specs.declared.vector.Rows.{Rows}
use Rattle.dem_num.specs.declared.vector.Vec3.{Vec3}
use Rattle.dem_num.specs.declared.vector.Wide3.{Wide3}
use Rattle.dem_num.specs.Vectors.{widened, narrowed, sum_of, is_zero, Within}
use Rattle.dem_num.specs.Rotations.{IsOrientation, matrix_of, turned_by, EntriesWithin}
use Rattle.dem_turn.proofs.StillFacts.{sum_turned_zero}
use Rattle.dem_model.specs.SceneValue.{SceneValue}
use Rattle.dem_model.specs.Position.{in_voxels, in_box}
use Rattle.dem_model.specs.Sound.{IsSound}
use Rattle.dem_model.specs.Spheres.{Sphere, center_of}
use Rattle.dem_model.specs.Centers.{body_at, still_body, placed}
use Rattle.dem_model.specs.Motion.{AreSound}
use Rattle.dem_model.specs.declared.limits.TheConstants.{MAX_VOXELS, VOXEL}
use Rattle.dem_model.specs.declared.shape.Ball.{Ball}
use Rattle.dem_model.specs.declared.state.Body.{Body}
use Rattle.dem_shape.specs.declared.pose.Pose.{Pose}
use Rattle.dem_shape.specs.Pose.{IsPose}

-- a component in the box is small
in_voxels-small : (n : ℕ) (z : ℤ) → n ≤ MAX_VOXELS → in_voxels n z ≡ true → unsigned_abs z ≤ 2 ^ 36
unfolding in_voxels
in_voxels-small n (pos m) small h =
    let below : m < n * VOXEL = ltb-true m (n * VOXEL) (and_parts (not (int_lt (pos m) (pos 0))) (int_lt (pos m) (pos (n * VOXEL))) h).1 in
    omega arith
in_voxels-small n (negsuc m) small h = let no : false ≡ true = h in cc

-- a place in the box is small
pub in_box-small : (s : SceneValue) (p : Wide3) → IsSound s → IsTrue (in_box s p) → Within p (2 ^ 36)
unfolding in_box
in_box-small s p sound h =
    let first = and_parts (in_voxels s.nx p.x && in_voxels s.ny p.y) (in_voxels s.nz p.z) h in
    let second = and_parts (in_voxels s.nx p.x) (in_voxels s.ny p.y) first.0 in
    record {
      x = in_voxels-small s.nx p.x sound.nx.le_high second.0;
      y = in_voxels-small s.ny p.y sound.ny.le_high second.1;
      z = in_voxels-small s.nz p.z sound.nz.le_high first.1;
    }

-- the body of a clump, as a list of bodies shows it
pub body_read : (bodies : List Body) (k : ℕ) (d : Body) → k < length bodies → get_or bodies k d ≡ body_at bodies k
unfolding body_at
body_read bodies k d h = get_or_default bodies k d still_body h

-- the quaternion of a sound body is an orientation
pub sound_orientation : (s : SceneValue) (bodies : List Body) (k : ℕ) → AreSound s bodies → k < length s.clumps → IsOrientation (body_at bodies k).q
sound_orientation s bodies k sound there =
    let q = (sound.each k there).body.q in record { long_enough = q.low_le; short_enough = q.le_high }

pub read_orientation : (s : SceneValue) (bodies : List Body) (k : ℕ) (d : Body) → AreSound s bodies → k < length s.clumps → IsOrientation (get_or bodies k d).q
read_orientation s bodies k d sound there =
    let e : get_or bodies k d ≡ body_at bodies k = body_read bodies k d (omega (arith, sound.count)) in
    subst (λ b. IsOrientation b.q) (sym e) (sound_orientation s bodies k sound there)

-- the pose made of a clump's body
pub pose_made : (s : SceneValue) (bodies : List Body) (k : ℕ) (d : Body) (pose : Pose) → IsSound s → AreSound s bodies → k < length s.clumps →
    pose.clump ≡ k → pose.p ≡ (get_or bodies k d).p → pose.rows ≡ matrix_of (get_or bodies k d).q → EntriesWithin pose.rows (2 ^ 30) →
    IsPose s bodies k pose
pose_made s bodies k d pose scene sound there clump place rows entries =
    let e : get_or bodies k d ≡ body_at bodies k = body_read bodies k d (omega (arith, sound.count)) in
    let here : pose.p ≡ (body_at bodies k).p = place ∙ ap (λ (b : Body). b.p) e in
    record {
      clump = clump;
      there = there;
      place = here;
      rows = rows ∙ ap (λ (b : Body). matrix_of b.q) e;
      entries = entries;
      small = subst (λ (p : Vec3). Within (widened p) (2 ^ 36)) (sym here) (in_box-small s (widened (body_at bodies k).p) scene (sound.each k there).body.p);
    }

-- a pose is that of its own clump
pub pose_own : (s : SceneValue) (bodies : List Body) (k : ℕ) (pose : Pose) → IsPose s bodies k pose → IsPose s bodies pose.clump pose
pose_own s bodies k pose h = subst (λ n. IsPose s bodies n pose) (sym h.clump) h

-- a sphere of the clump stands at the pose's place and its turned offset
pub pose_places : (s : SceneValue) (bodies : List Body) (x : Sphere) (pose : Pose) (c : Vec3) → IsPose s bodies x.clump pose →
    widened c ≡ sum_of (widened pose.p) (turned_by pose.rows (widened x.ball.at)) → c ≡ placed bodies x
unfolding placed center_of
pose_places s bodies x pose c h e =
    ap narrowed e
    ∙ ap (λ p. narrowed (sum_of (widened p) (turned_by pose.rows (widened x.ball.at)))) h.place
    ∙ ap (λ r. narrowed (sum_of (widened (body_at bodies x.clump).p) (turned_by r (widened x.ball.at)))) h.rows

-- a sphere without offset stands where its clump's body does
pub own_places : (bodies : List Body) (x : Sphere) (k : ℕ) (d : Body) → k < length bodies → k ≡ x.clump → is_zero (widened x.ball.at) ≡ true →
    (get_or bodies k d).p ≡ placed bodies x
unfolding placed center_of
own_places bodies x k d lt e zero =
    ap (λ (b : Body). b.p) (body_read bodies k d lt ∙ ap (body_at bodies) e)
    ∙ ap narrowed (sym (sum_turned_zero (widened (body_at bodies x.clump).p) (matrix_of (body_at bodies x.clump).q) (widened x.ball.at) zero))

-- a sphere stands at its clump's place and its offset, turned by the clump's matrix
pub turned_places : (bodies : List Body) (x : Sphere) (k : ℕ) (d : Body) (rows : Rows) (at : Ball) (c : Vec3) → k < length bodies → k ≡ x.clump → at ≡ x.ball →
    rows ≡ matrix_of (body_at bodies k).q → widened c ≡ sum_of (widened (get_or bodies k d).p) (turned_by rows (widened at.at)) → c ≡ placed bodies x
unfolding placed center_of
turned_places bodies x k d rows at c lt here ball r e =
    ap narrowed e
    ∙ ap (λ (b : Body). narrowed (sum_of (widened b.p) (turned_by rows (widened at.at)))) (body_read bodies k d lt)
    ∙ ap (λ m. narrowed (sum_of (widened (body_at bodies k).p) (turned_by m (widened at.at)))) r
    ∙ ap (λ n. narrowed (sum_of (widened (body_at bodies n).p) (turned_by (matrix_of (body_at bodies n).q) (widened at.at)))) here
    ∙ ap (λ (a : Ball). narrowed (sum_of (widened (body_at bodies x.clump).p) (turned_by (matrix_of (body_at bodies x.clump).q) (widened a.at)))) ball

-- the place of a sound body is small
pub read_place : (s : SceneValue) (bodies : List Body) (k : ℕ) (d : Body) → IsSound s → AreSound s bodies → k < length s.clumps → Within (widened (get_or bodies k d).p) (2 ^ 37)
read_place s bodies k d scene sound there =
    let e : get_or bodies k d ≡ body_at bodies k = body_read bodies k d (omega (arith, sound.count)) in
    let small : Within (widened (body_at bodies k).p) (2 ^ 36) = in_box-small s (widened (body_at bodies k).p) scene (sound.each k there).body.p in
    subst (λ (b : Body). Within (widened b.p) (2 ^ 37)) (sym e) (record { x = omega (arith, small.x); y = omega (arith, small.y); z = omega (arith, small.z) })
