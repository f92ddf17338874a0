-- How long the line between two centers is, and where spheres and walls stand.
use Rattle.std.proofs.Common.{◌≡◌, ℕ, ◌*◌, ◌<◌, ◌≤◌, arith, ℤ, pos, negsuc, unsigned_abs, true, false, subst, sym, ap, ◌∙◌, List, length, get_or, Some, refl}
use Rattle.std.specs.Prelude.{All, IsTrue, slice_get, not, ◌&&◌, int_lt}
use Rattle.std.proofs.lemmas.Bool.{and_parts, ltb-true}
use Rattle.std.proofs.lemmas.Int.{ints}
use Rattle.std.proofs.lemmas.Option.{get_or_from_slice_get, slice_get_within}
use Rattle.dem_num.specs.declared.vector.Vec3.{Vec3}
use Rattle.dem_num.specs.Vectors.{widened}
use Rattle.dem_model.specs.SceneValue.{SceneValue}
use Rattle.dem_model.specs.Position.{in_voxels, in_box}
use Rattle.dem_model.specs.Sound.{IsSound, IsForm, IsWall, IsBetween, EachBetween, IsTemplate, IsBodyOf}
use Rattle.dem_model.specs.Ranges.{IsWallFor}
use Rattle.dem_model.specs.Motion.{AreSound}
use Rattle.dem_model.specs.Centers.{body_at}
use Rattle.dem_model.specs.Pairs.{sphere_at, sphere_count}
use Rattle.dem_model.specs.Advance.{mass_of}
use Rattle.dem_model.specs.Step.{clump_at, clump_of_sphere, no_clump}
use Rattle.dem_model.specs.declared.limits.TheConstants.{MAX_VOXELS, VOXEL, MAX_POINT}
use Rattle.dem_model.specs.declared.shape.Ball.{Ball}
use Rattle.dem_model.specs.declared.shape.Template.{Template}
use Rattle.dem_model.specs.declared.shape.Form.{Form}
use Rattle.dem_model.specs.declared.shape.Form.TheVariants.{Plane, Cylinder}
use Rattle.dem_model.specs.declared.shape.Wall.{Wall}
use Rattle.dem_model.specs.declared.state.Body.{Body}
use Rattle.dem_model.specs.declared.state.Clump.{Clump}
use Rattle.dem_model.proofs.SoundFacts.{sphere_at-narrower}
use Rattle.dem_shape.proofs.PoseFacts.{body_read}
use Rattle.dem_num.specs.declared.vector.Wide3.{Wide3}
use Rattle.dem_num.specs.Numbers.{root_of}
use Rattle.dem_num.specs.Vectors.{norm2_of}
use Rattle.dem_num.proofs.RootFacts.{le_root}

-- no component is greater than the length
pub part_x : (d : Wide3) → unsigned_abs d.x ≤ root_of (norm2_of d)
unfolding norm2_of
part_x d = le_root _ (unsigned_abs d.x) (omega arith)

pub part_y : (d : Wide3) → unsigned_abs d.y ≤ root_of (norm2_of d)
unfolding norm2_of
part_y d = le_root _ (unsigned_abs d.y) (omega arith)

pub part_z : (d : Wide3) → unsigned_abs d.z ≤ root_of (norm2_of d)
unfolding norm2_of
part_z d = le_root _ (unsigned_abs d.z) (omega arith)

-- a component in the box is no less than 0 and no more than the greatest place
in_voxels-between : (n : ℕ) (z : ℤ) → n ≤ MAX_VOXELS → in_voxels n z ≡ true → IsBetween (pos 0) (pos MAX_POINT) z
unfolding in_voxels
in_voxels-between n (pos m) small h =
    let below : m < n * VOXEL = ltb-true m (n * VOXEL) (and_parts (not (int_lt (pos m) (pos 0))) (int_lt (pos m) (pos (n * VOXEL))) h).1 in
    record { low_le = omega (arith, ints); le_high = omega (arith, ints) }
in_voxels-between n (negsuc m) small h = let no : false ≡ true = h in cc

-- a place in the box has components from 0 to the greatest place
pub in_box-between : (s : SceneValue) (p : Vec3) → IsSound s → IsTrue (in_box s (widened p)) → EachBetween (pos 0) (pos MAX_POINT) p
unfolding in_box
in_box-between s p sound h =
    let first = and_parts (in_voxels s.nx p.x && in_voxels s.ny p.y) (in_voxels s.nz p.z) h in
    let second = and_parts (in_voxels s.nx p.x) (in_voxels s.ny p.y) first.0 in
    record {
      x = in_voxels-between s.nx p.x sound.nx.le_high second.0;
      y = in_voxels-between s.ny p.y sound.ny.le_high second.1;
      z = in_voxels-between s.nz p.z sound.nz.le_high first.1;
    }

-- a form of a scene is one that each of its spheres may meet
form_for : (r : ℕ) (templates : List Template) →
    ((radius : ℕ) → All (λ (t : Template). All (λ (y : Ball). y.r < radius) t.balls) templates → r < radius) →
    (f : Form) → IsForm templates f → IsWallFor r f
form_for r templates narrower (Plane at dir) h = h
form_for r templates narrower (Cylinder axis at radius) h = (h.0, narrower radius h.2, h.1.le_high)

pub wall_for : (s : SceneValue) (i m : ℕ) (w : Wall) → IsSound s → i < sphere_count s → IsWall m s.templates w → IsWallFor (sphere_at s i).ball.r w.form
wall_for s i m w sound there wall =
    form_for (sphere_at s i).ball.r s.templates (λ radius all. sphere_at-narrower s i radius sound there all) w.form wall.form

-- the mass that is read through a sphere's clump and its template
pub mass_read : (s : SceneValue) (i k : ℕ) (c : Clump) (x : Template) → k ≡ (sphere_at s i).clump →
    slice_get s.clumps k ≡ Some c → slice_get s.templates c.t ≡ Some x → x.mass ≡ mass_of s.templates (clump_of_sphere s i).t
unfolding mass_of clump_at
mass_read s i k c x e clump template =
    let here : get_or s.clumps (sphere_at s i).clump no_clump ≡ c = ap (λ n. get_or s.clumps n no_clump) (sym e) ∙ get_or_from_slice_get s.clumps k c no_clump clump in
    rw (here, template) refl

-- a template that is read is within its ranges
pub template_read : (s : SceneValue) (t : ℕ) (x : Template) → IsSound s → slice_get s.templates t ≡ Some x → IsTemplate (length s.materials) x
template_read s t x sound at =
    subst (λ y. IsTemplate (length s.materials) y) (get_or_from_slice_get s.templates t x x at) (sound.templates t x (slice_get_within s.templates t x at))

-- the body that is read for a sphere is sound for its clump
pub body_of_sphere : (s : SceneValue) (bodies : List Body) (i k : ℕ) (d : Body) → AreSound s bodies → k ≡ (sphere_at s i).clump → k < length s.clumps →
    IsBodyOf s (clump_of_sphere s i) (get_or bodies k d)
body_of_sphere s bodies i k d sound e there =
    let read : get_or bodies k d ≡ body_at bodies k = body_read bodies k d (omega (arith, sound.count)) in
    subst (λ (n : ℕ). IsBodyOf s (clump_at s n) (get_or bodies k d)) e (subst (λ b. IsBodyOf s (clump_at s k) b) (sym read) (sound.each k there))

pub body_at_sphere : (s : SceneValue) (bodies : List Body) (i k : ℕ) (d : Body) → AreSound s bodies → k ≡ (sphere_at s i).clump → k < length s.clumps →
    get_or bodies k d ≡ body_at bodies (sphere_at s i).clump
body_at_sphere s bodies i k d sound e there = body_read bodies k d (omega (arith, sound.count)) ∙ ap (body_at bodies) e
