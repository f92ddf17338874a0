-- What the tables of spheres and of walls say at a place.
use Rattle.std.proofs.Common.{◌≡◌, ℕ, ◌<◌, ◌≤◌, List, length, get_or, map, sym, ap, ◌∙◌, arith, subst, [], ◌∷◌, ◌++◌, ◌+◌, ◌-◌, ◌^◌, take, Some}
use Rattle.std.specs.Prelude.{slice_get}
use Rattle.std.specs.Option.{option_map_or}
use Rattle.dem_model.specs.declared.shape.Template.{Template}
use Rattle.std.proofs.lemmas.Option.{slice_get_within, get_or_from_slice_get}
use Rattle.std.proofs.lemmas.List.{length-map, get_or-map, take_more, take_all, length-take-le, map-append}
use Rattle.dem_model.specs.SceneValue.{SceneValue}
use Rattle.dem_model.specs.Spheres.{spheres_of, spheres_from, spheres_of_clump, sphere_of, balls_of}
use Rattle.dem_model.specs.Pairs.{sphere_at, sphere_count, limit_of, wall_at, no_sphere, no_wall}
use Rattle.dem_model.specs.Sound.{IsSound}
use Rattle.dem_model.specs.declared.state.Clump.{Clump}
use Rattle.dem_model.proofs.SphereFacts.{spheres_from-push}
use Rattle.dem_model.specs.declared.limits.TheConstants.{MAX_SPHERES}
use Rattle.dem_shape.specs.declared.entry.Entry.{Entry}
use Rattle.dem_num.specs.declared.vector.Vec3.{Vec3}
use Rattle.dem_num.specs.Vectors.{widened, Within}
use Rattle.std.proofs.lemmas.List.Elements.{All-push}
use Rattle.dem_model.specs.Sound.{IsForm}
use Rattle.dem_model.specs.declared.shape.Form.{Form}
use Rattle.dem_model.specs.declared.shape.Form.TheVariants.{Plane, Cylinder}
use Rattle.dem_model.specs.declared.shape.Wall.{Wall}
use Rattle.dem_wall.specs.Normal.{wall_normal_of, HasDirection}
use Rattle.dem_shape.specs.Table.{table_entry_of, IsTable, AreNormals}

-- there is an entry for each sphere
pub table_length : (s : SceneValue) (es : List Entry) → IsTable s es → length es ≡ sphere_count s
unfolding sphere_count
table_length s es t = ap length t.each ∙ length-map (spheres_of s) (table_entry_of s)

-- the entry at a place is that of its sphere
pub table_entry : (s : SceneValue) (es : List Entry) (i : ℕ) (d : Entry) → IsTable s es → i < sphere_count s → get_or es i d ≡ table_entry_of s (sphere_at s i)
unfolding sphere_at sphere_count
table_entry s es i d t h = ap (λ xs. get_or xs i d) t.each ∙ get_or-map (table_entry_of s) (spheres_of s) i no_sphere d h

-- there are few spheres
pub table_small : (s : SceneValue) (es : List Entry) → IsTable s es → sphere_count s ≤ MAX_SPHERES
unfolding sphere_count
table_small s es t = t.sound.sphere_count

-- the table goes on with the spheres of one more clump
pub table_more : (s : SceneValue) (k : ℕ) (c : Clump) (old new : List Entry) → slice_get s.clumps k ≡ Some c →
    old ≡ map (table_entry_of s) (spheres_from s.templates 0 (take k s.clumps)) →
    new ≡ old ++ map (table_entry_of s) (spheres_of_clump s.templates k c.t) →
    new ≡ map (table_entry_of s) (spheres_from s.templates 0 (take (k + 1) s.clumps))
table_more s k c old new at before after =
    let lt : k < length s.clumps = slice_get_within s.clumps k c at in
    let item : get_or s.clumps k c ≡ c = get_or_from_slice_get s.clumps k c c at in
    let more : take (k + 1) s.clumps ≡ take k s.clumps ++ c ∷ [] = take_more s.clumps k c lt ∙ ap (λ x. take k s.clumps ++ x ∷ []) item in
    let place : 0 + length (take k s.clumps) ≡ k = omega (arith, length-take-le k s.clumps (omega arith)) in
    after
    ∙ ap (λ xs. xs ++ map (table_entry_of s) (spheres_of_clump s.templates k c.t)) before
    ∙ sym (map-append (table_entry_of s) (spheres_from s.templates 0 (take k s.clumps)) (spheres_of_clump s.templates k c.t))
    ∙ ap (λ n. map (table_entry_of s) (spheres_from s.templates 0 (take k s.clumps) ++ spheres_of_clump s.templates n c.t)) (sym place)
    ∙ ap (map (table_entry_of s)) (sym (spheres_from-push s.templates 0 (take k s.clumps) c))
    ∙ ap (λ xs. map (table_entry_of s) (spheres_from s.templates 0 xs)) (sym more)

-- the table is whole after the last clump
pub table_all : (s : SceneValue) (k : ℕ) (es : List Entry) → IsSound s → length s.clumps ≤ k →
    es ≡ map (table_entry_of s) (spheres_from s.templates 0 (take k s.clumps)) → IsTable s es
unfolding spheres_of
table_all s k es sound le e = record { each = e ∙ ap (λ xs. map (table_entry_of s) (spheres_from s.templates 0 xs)) (take_all k s.clumps le); sound = sound }

-- a clump's template is there
pub clump_template : (s : SceneValue) (k : ℕ) (c : Clump) → IsSound s → slice_get s.clumps k ≡ Some c → c.t < length s.templates
clump_template s k c sound at =
    subst (λ (x : Clump). x.t < length s.templates) (get_or_from_slice_get s.clumps k c c at) (sound.clumps k c (slice_get_within s.clumps k c at)).t

-- the spheres of a clump are those of its template
pub spheres_of_template : (s : SceneValue) (k t : ℕ) (x : Template) → slice_get s.templates t ≡ Some x →
    spheres_of_clump s.templates k t ≡ map (sphere_of k) x.balls
unfolding spheres_of_clump balls_of
spheres_of_template s k t x at = ap (λ o. map (sphere_of k) (option_map_or (λ (y : Template). y.balls) o [])) at

-- ---- walls

-- a form within its ranges has a direction, if it is a plane
pub form_direction : (templates : List Template) (form : Form) → IsForm templates form → HasDirection form
form_direction templates (Plane at dir) h = (h.1, h.2)
form_direction templates (Cylinder axis at r) h = tt

-- a wall of a scene has a direction, if it is a plane
pub wall_direction : (s : SceneValue) (i : ℕ) (w : Wall) → IsSound s → slice_get s.walls i ≡ Some w → HasDirection w.form
wall_direction s i w sound at =
    subst (λ (x : Wall). HasDirection x.form) (get_or_from_slice_get s.walls i w w at)
    (form_direction s.templates _ (sound.walls i w (slice_get_within s.walls i w at)).form)

-- the normals go on with that of one more wall
pub normals_more : (walls : List Wall) (i : ℕ) (w : Wall) (ns : List Vec3) (n : Vec3) → i < length walls →
    AreNormals (take i walls) ns → n ≡ wall_normal_of (get_or walls i w) → Within (widened n) (2 ^ 30) → AreNormals (take (i + 1) walls) (ns ++ n ∷ [])
normals_more walls i w ns n lt before e small = record {
  each =
      ap (λ x. ns ++ x ∷ []) e
      ∙ ap (λ xs. xs ++ wall_normal_of (get_or walls i w) ∷ []) before.each
      ∙ sym (map-append wall_normal_of (take i walls) (get_or walls i w ∷ []))
      ∙ ap (map wall_normal_of) (sym (take_more walls i w lt));
  small = All-push (λ (x : Vec3). Within (widened x) (2 ^ 30)) ns n before.small small;
}

-- the normal at a place is that of its wall
pub normal_at : (s : SceneValue) (ns : List Vec3) (b : ℕ) (d : Vec3) → AreNormals s.walls ns → b - sphere_count s < length s.walls →
    get_or ns (b - sphere_count s) d ≡ wall_normal_of (wall_at s b)
unfolding wall_at
normal_at s ns b d are lt = ap (λ xs. get_or xs (b - sphere_count s) d) are.each ∙ get_or-map wall_normal_of s.walls (b - sphere_count s) no_wall d lt

-- there is a normal for each wall
pub normal_count : (walls : List Wall) (ns : List Vec3) → AreNormals walls ns → length ns ≡ length walls
normal_count walls ns are = ap length are.each ∙ length-map walls wall_normal_of

-- a number after those of the spheres is that of a wall
pub wall_there : (s : SceneValue) (b : ℕ) → sphere_count s ≤ b → b < limit_of s → b - sphere_count s < length s.walls
unfolding limit_of
wall_there s b later there = omega (arith, later, there)
