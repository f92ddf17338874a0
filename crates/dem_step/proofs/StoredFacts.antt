-- Bodies in their stored form.
use Rattle.std.proofs.Common.{◌≡◌, ℕ, ◌<◌, true, List, length, get_or, arith, map, refl, sym, ap, ◌∙◌, subst, Option, Some, Ok}
use Rattle.std.specs.Prelude.{slice_get, slice_set, IsTrue}
use Rattle.std.specs.Option.{option_map, IsSome}
use Rattle.std.proofs.lemmas.List.{map-set}
use Rattle.std.proofs.lemmas.Option.{slice_get-map, get_or_from_slice_get}
use Rattle.dem_num.specs.declared.vector.Wide3.{Wide3}
use Rattle.dem_num.specs.Vectors.{widened, sum_of, shifted_each}
use Rattle.dem_model.specs.SceneValue.{SceneValue}
use Rattle.dem_model.specs.Sound.{IsSound}
use Rattle.dem_model.specs.Position.{in_box}
use Rattle.dem_model.specs.Centers.{body_at, still_body}
use Rattle.dem_model.specs.declared.state.Body.{Body}
use Rattle.dem_model.specs.declared.state.Clump.{Clump}
use Rattle.dem_model.specs.declared.law.Load.{Load}
use Rattle.dem_model.specs.Spheres.{balls_of}
use Rattle.dem_model.specs.Advance.{position_after, body_with, advance_of}
use Rattle.dem_voxel.specs.declared.position.VoxelPos.{VoxelPos}
use Rattle.dem_voxel.specs.Voxel.{is_packable, in_box_of, packed_in}
use Rattle.dem_voxel.proofs.VoxelFacts.{is_packable_in}
use Rattle.dem_step.proofs.DriftFacts.{limited_kept}
use Rattle.dem_step.specs.Stored.{body_of}
use Rattle.dem_step.specs.declared.stored.Stored.{Stored}

-- the box of a scene, by its voxels
pub in_box_by : (s : SceneValue) (p : Wide3) → IsTrue (in_box s p) → in_box_of s.nx s.ny s.nz p ≡ true
unfolding in_box in_box_of
in_box_by s p h = h

-- a place in the box has a stored form
pub packable-inside : (s : SceneValue) (p : Wide3) → IsSound s → IsTrue (in_box s p) → is_packable p ≡ true
packable-inside s p sound h = is_packable_in s.nx s.ny s.nz p sound.nx.le_high sound.ny.le_high sound.nz.le_high (in_box_by s p h)

-- the body that was put is there, and all others stay
pub stored_set : (xs : List Stored) (k : ℕ) (x : Stored) (b : Body) → body_of x ≡ b → map body_of (slice_set xs k x) ≡ slice_set (map body_of xs) k b
stored_set xs k x b e = map-set body_of xs k x ∙ ap (slice_set (map body_of xs) k) e

-- the body of the stored form that was read
pub stored_read : (xs : List Stored) (k : ℕ) (x : Stored) → slice_get xs k ≡ Some x → body_at (map body_of xs) k ≡ body_of x
unfolding body_at
stored_read xs k x there =
    let at : slice_get (map body_of xs) k ≡ Some (body_of x) = slice_get-map body_of xs k ∙ ap (option_map body_of) there in
    get_or_from_slice_get (map body_of xs) k (body_of x) still_body at

-- there is a stored form of a place in the scene's box
pub moved_there : (s : SceneValue) (nx ny nz : ℕ) (p q : Wide3) (r : Option VoxelPos) → nx ≡ s.nx → ny ≡ s.ny → nz ≡ s.nz → p ≡ q → IsTrue (in_box s p) →
    r ≡ packed_in nx ny nz q → IsSome r
unfolding packed_in
moved_there s nx ny nz p q r x y z e inside is =
    let here : in_box_of nx ny nz q ≡ true = rw (x, y, z) (subst (λ w. in_box_of s.nx s.ny s.nz w ≡ true) e (in_box_by s p inside)) in
    subst IsSome (sym is) (rw here refl)

-- a step within the limits moves a clump by the velocity that it gives
pub advance-leads : (s : SceneValue) (c : Clump) (b b' : Body) (w : Load) → advance_of s c b w ≡ Ok b' → widened b'.p ≡ sum_of (widened b.p) (shifted_each (widened b'.v) 16)
unfolding advance_of body_with position_after
advance-leads s c b b' w ok =
    let kept = limited_kept s (balls_of s.templates c.t) b b' _ _ ok in
    subst (λ (n : Body). widened n.p ≡ sum_of (widened b.p) (shifted_each (widened n.v) 16)) (sym kept.same) refl

-- each clump starts in the box
pub first_inside : (s : SceneValue) (cs : List Clump) (k : ℕ) (d : Clump) → IsSound s → cs ≡ s.clumps → k < length cs → IsTrue (in_box s (widened (get_or cs k d).body.p))
first_inside s cs k d sound e lt =
    subst (λ xs. IsTrue (in_box s (widened (get_or xs k d).body.p))) (sym e) (sound.clumps k d (omega (arith, ap length e))).body.body.p
