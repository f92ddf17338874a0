-- A scene text's tree with stands as its clumps: the scene that it is, how long its text is, how deep it nests.
use Rattle.std.proofs.Common.{◌≡◌, ℕ, ◌^◌, ◌<◌, ◌≤◌, Bool, true, false, cond, ◌&&◌, List, [], ◌∷◌, map, length, Option, Some, None, Result, Ok, Err, IfOk, IsOk, option_and_then, codes, bytes_eq, nat_lt, nat_le, Ordering, Less, Equal, Greater, nat_cmp, refl, sym, ap, ◌∙◌, subst, true≢false, arith}
use Rattle.std.specs.List.{list_all}
use Rattle.std.specs.Str.{is_utf8}
use Rattle.std.specs.Ordering.{match_ordering}
use Rattle.std.specs.Cmp.Lexicographic.{slice_cmp}
use Rattle.std.proofs.lemmas.Bool.{and_parts}
use Rattle.std.proofs.lemmas.Bool.Decides.{nat_tests}
use Rattle.std.proofs.lemmas.Slice.Eq.{bytes_eq-Decides}
use Rattle.json.specs.Print.{escape_byte}
use Rattle.serde_json.specs.Data.{Data, null, boolean, number, string, array, object, Members, no_members, member, put, depth, members_depth}
use Rattle.serde_json.specs.Find.{get}
use Rattle.serde_json.specs.Read.{max_depth, read}
use Rattle.serde_json.proofs.Nesting.{depth-read}
use Rattle.serde_json.proofs.Views.{get_member-put, get_member-put_other}
use Rattle.dem_model.specs.declared.fault.Name.TheVariants as names
use Rattle.dem_model.specs.declared.fault.SceneFault.{SceneFault}
use Rattle.dem_model.specs.declared.fault.SceneFault.TheVariants.{TooLong, NotJson, Unknown, Count}
use Rattle.dem_model.specs.declared.state.Stand.{Stand}
use Rattle.dem_model.specs.declared.limits.TheConstants.{MAX_TEXT, MAX_VOXELS, MAX_STEPS, MAX_SPEED, MAX_SPIN, MAX_GRAVITY, MAX_MATERIALS, MAX_TEMPLATES, MAX_WALLS, MAX_CLUMPS, MAX_OFF}
use Rattle.dem_model.specs.SceneValue.{SceneValue}
use Rattle.dem_model.specs.Spheres.{spheres_of}
use Rattle.dem_model.specs.Stands.{standing, with_stands, CanStand}
use Rattle.dem_model.specs.Reading.{◌>>=◌, spot, unless, if_so, required, optional, is_among, names_in, from_to, at_most, whole, is_known_in, check_object_in, number_at, count_of, list_at, list_or}
use Rattle.dem_model.specs.ReadingNames.{names_of, later_names_of}
use Rattle.dem_model.specs.ReadingVectors.{vector_at, vector_or}
use Rattle.dem_model.specs.ReadingKinds.{material_of, template_of, greatest_radius, wall_of, off_of, clumps_from}
use Rattle.dem_model.specs.ReadingScene.{is_two, is_later, check_version, motions_or, clumps_of, clumps_at, table_of, check_clumps, scene_of, tree_of, json_of, scene_from}
use Rattle.dem_scene.specs.Stands.{stand_items, with_clumps_in, with_clumps_of, IsWithClumps, IsTextOf}
use Rattle.dem_scene.proofs.OrderFacts.{IsOrdered, AreOrdered, IfThere, order_put, order_read}
use Rattle.dem_scene.proofs.FitFacts.{Fits, Fits-more, Rooms}
use Rattle.dem_scene.proofs.ReadFacts.{then_ok, unless_ok, ok_same, from_to_small, from_to_passes, at_most_passes, number_at_fits, vector_at_fits, vector_or_fits, version_at_fits, list_at_fits, list_or_fits, known_fits_in}
use Rattle.dem_scene.proofs.KindFacts.{material_fits, template_fits, wall_fits}
use Rattle.dem_scene.proofs.MotionFits.{motions_or_fits, off_fits}
use Rattle.dem_scene.proofs.PartFacts.{HasParts, parts_of, table_from, then_gives, vector_passes, list_at_count}
use Rattle.dem_scene.proofs.StandFacts.{IsBoxed, stands_read, stand_count, stands_checked, list_fits, list_shallow}

-- ---- one member that is put among others

all_by : (test : List ℕ → Bool) (o : Ordering) (a b c : Members) → list_all test (names_in a) ≡ true → list_all test (names_in b) ≡ true → list_all test (names_in c) ≡ true → list_all test (names_in (match_ordering o a b c)) ≡ true
all_by test Less a b c p q r = p
all_by test Equal a b c p q r = q
all_by test Greater a b c p q r = r

both : (a b : Bool) → a ≡ true → b ≡ true → (a && b) ≡ true
both a b p q = rw (p, q) refl

names_put : (test : List ℕ → Bool) (k : List ℕ) (d : Data) (ms : Members) → test k ≡ true → list_all test (names_in ms) ≡ true → list_all test (names_in (put k d ms)) ≡ true
names_put test k d no_members h e = both (test k) true h refl
names_put test k d (member l x ms) h e =
    let p = and_parts (test l) (list_all test (names_in ms)) e in
    all_by test (slice_cmp nat_cmp k l) (member k d (member l x ms)) (member l d ms) (member l x (put k d ms)) (both (test k) _ h e) e (both (test l) _ p.0 (names_put test k d ms h p.1))

depth_by : (o : Ordering) (a b c : Members) (n : ℕ) → members_depth a ≤ n → members_depth b ≤ n → members_depth c ≤ n → members_depth (match_ordering o a b c) ≤ n
depth_by Less a b c n p q r = p
depth_by Equal a b c n p q r = q
depth_by Greater a b c n p q r = r

depth_put : (k : List ℕ) (d : Data) (ms : Members) (n : ℕ) → depth d ≤ n → members_depth ms ≤ n → members_depth (put k d ms) ≤ n
depth_put k d no_members n p q = omega arith
depth_put k d (member l x ms) n p q =
    depth_by (slice_cmp nat_cmp k l) (member k d (member l x ms)) (member l d ms) (member l x (put k d ms)) n (omega arith) (omega arith) (omega (arith, depth_put k d ms n p (omega arith)))

-- ---- the parts of the table

module _ (stands : List Stand) (ms : Members) where
  old : Data
  old = object ms

  new : Data
  new = object (with_clumps_in stands ms)

  -- another name has what it had
  same_under : (name : List ℕ) → bytes_eq name (codes "clumps") ≡ false → get name new ≡ get name old
  unfolding old new
  same_under name e = get_member-put_other name (codes "clumps") (array (stand_items stands)) ms (λ h. true≢false (sym ((bytes_eq-Decides name (codes "clumps")).1 h) ∙ e))

  clumps_under : get (codes "clumps") new ≡ Some (array (stand_items stands))
  unfolding new
  clumps_under = get_member-put (codes "clumps") (array (stand_items stands)) ms

  -- it is of the same version
  same_later : is_later new ≡ is_later old
  unfolding is_later
  same_later = ap (λ o. is_two (option_and_then whole o)) (same_under (codes "version") refl)

  known_in : (later : Bool) → check_object_in later (spot names.Scene 0 0) old ≡ Ok tt → check_object_in later (spot names.Scene 0 0) new ≡ Ok tt
  unfolding old new check_object_in is_known_in is_among names_of
  known_in later e =
      let known = unless_ok (Unknown (spot names.Scene 0 0)) (list_all (is_known_in later names.Scene) (names_in ms)) tt e in
      ap (unless (Unknown (spot names.Scene 0 0))) (names_put (is_known_in later names.Scene) (codes "clumps") (array (stand_items stands)) ms refl known)

  new_known : check_object_in (is_later old) (spot names.Scene 0 0) old ≡ Ok tt → check_object_in (is_later new) (spot names.Scene 0 0) new ≡ Ok tt
  new_known e = ap (λ later. check_object_in later (spot names.Scene 0 0) new) same_later ∙ known_in (is_later old) e

  new_clumps : (s : SceneValue) → IsBoxed s → length s.templates < 2 ^ 63 → CanStand s stands → clumps_at (is_later new) s.templates new ≡ Ok (map standing stands)
  unfolding clumps_at clumps_of spheres_of
  new_clumps s b few h =
      let at = spot names.Clumps 0 0 in
      let low : nat_le 1 (count_of (stand_items stands)) ≡ true = rw (stand_count stands) (let le = h.count.low_le in grind (arith, nat_tests)) in
      let high : nat_le (count_of (stand_items stands)) MAX_CLUMPS ≡ true = rw (stand_count stands) (let le = h.count.le_high in grind (arith, nat_tests)) in
      ap (required at (clumps_of (is_later new) s.templates at)) clumps_under
      ∙ then_gives (if_so (Count at) (nat_le 1 (count_of (stand_items stands)) && nat_le (count_of (stand_items stands)) MAX_CLUMPS) (stand_items stands)) (clumps_from (is_later new) s.templates 0 0) (stand_items stands) (map standing stands)
      (ap (λ t. if_so (Count at) t (stand_items stands)) (both _ _ low high))
      (stands_read (is_later new) s 0 0 0 stands b few h.clumps (omega (arith, h.spheres)))

  new_parts : (s : SceneValue) → IsBoxed s → length s.templates < 2 ^ 63 → CanStand s stands → HasParts old s → HasParts new (with_stands s stands)
  unfolding number_at vector_at vector_or list_at list_or check_version motions_or
  new_parts s b few h p = record {
    known = new_known p.known;
    version = ap (required _ _) (same_under (codes "version") refl) ∙ p.version;
    size = p.size;
    box = ap (required _ _) (same_under (codes "box") refl) ∙ p.box;
    steps = ap (required _ _) (same_under (codes "steps") refl) ∙ p.steps;
    every = ap (required _ _) (same_under (codes "every") refl) ∙ p.every;
    speed = ap (required _ _) (same_under (codes "speed") refl) ∙ p.speed;
    spin = ap (required _ _) (same_under (codes "spin") refl) ∙ p.spin;
    gravity = ap (optional _ _) (same_under (codes "gravity") refl) ∙ p.gravity;
    materials = ap (required _ _) (same_under (codes "materials") refl) ∙ p.materials;
    templates = ap (required _ _) (same_under (codes "templates") refl) ∙ p.templates;
    walls = ap (optional _ _) (same_under (codes "walls") refl) ∙ p.walls;
    motions = ap (optional _ _) (same_under (codes "families") refl) ∙ p.motions;
    off = ap (optional _ _) (same_under (codes "off") refl) ∙ p.off;
    clumps = new_clumps s b few h;
    nx = p.nx;
    ny = p.ny;
    nz = p.nz;
  }

  new_ordered : AreOrdered (stand_items stands) → IsOrdered old → IsOrdered new
  unfolding old new
  new_ordered items o = order_put (codes "clumps") (array (stand_items stands)) ms items o

  new_depth : depth old ≤ max_depth → depth new ≤ max_depth
  unfolding old new
  new_depth h = omega (arith, depth_put (codes "clumps") (array (stand_items stands)) ms 126 (omega (arith, list_shallow stands)) (omega arith))

-- ---- the scene

boxed : (d : Data) (s : SceneValue) → HasParts d s → IsBoxed s
boxed d s p =
    let size = vector_passes (codes "box") (from_to 1 MAX_VOXELS) (spot names.Box 0 0) d p.size (from_to_passes 1 MAX_VOXELS (omega arith)) p.box in
    record {
      nx = subst (λ n. n ≤ MAX_VOXELS) p.nx (from_to_small 1 MAX_VOXELS p.size.x size.0);
      ny = subst (λ n. n ≤ MAX_VOXELS) p.ny (from_to_small 1 MAX_VOXELS p.size.y size.1);
      nz = subst (λ n. n ≤ MAX_VOXELS) p.nz (from_to_small 1 MAX_VOXELS p.size.z size.2);
    }

few_templates : (d : Data) (s : SceneValue) → HasParts d s → length s.templates < 2 ^ 63
few_templates d s p = omega (arith, list_at_count (codes "templates") 1 MAX_TEMPLATES (spot names.Templates 0 0) (template_of (length s.materials)) d s.templates p.templates)

few_materials : (d : Data) (s : SceneValue) → HasParts d s → length s.materials < 2 ^ 63
few_materials d s p = omega (arith, list_at_count (codes "materials") 1 MAX_MATERIALS (spot names.Materials 0 0) material_of d s.materials p.materials)

-- the parts of the scene that a tree is
pub scene_parts : (d : Data) (s : SceneValue) → scene_of d ≡ Ok s → HasParts d s
unfolding scene_of
scene_parts d s e =
    let a = then_ok (table_of d) _ s e in
    let b = then_ok (check_clumps a.0 0 a.0.clumps) _ s a.2 in
    subst (HasParts d) (ok_same a.0 s b.2) (parts_of d a.0 a.1)

scene_new : (stands : List Stand) (ms : Members) (s : SceneValue) → CanStand s stands → HasParts (new stands ms) (with_stands s stands) → scene_of (new stands ms) ≡ Ok (with_stands s stands)
unfolding scene_of
scene_new stands ms s h p =
    then_gives (table_of (new stands ms)) _ (with_stands s stands) (with_stands s stands) (table_from (new stands ms) (with_stands s stands) p) (
    then_gives (check_clumps (with_stands s stands) 0 (map standing stands)) _ tt (with_stands s stands) (stands_checked s stands 0 stands h.clumps) refl)

-- ---- the text

items_ordered : (stands : List Stand) → AreOrdered (stand_items stands)
items_ordered [] = tt
items_ordered (x ∷ xs) = (((refl, tt), (tt, (tt, (tt, tt))), (tt, tt, tt)), items_ordered xs)

scene_rooms : Rooms
scene_rooms = (codes "version", 20) ∷ (codes "box", 65) ∷ (codes "steps", 20) ∷ (codes "every", 20) ∷ (codes "speed", 20) ∷ (codes "spin", 20) ∷ (codes "gravity", 65) ∷ (codes "materials", 10178) ∷ (codes "templates", 546818) ∷ (codes "walls", 19522) ∷ (codes "clumps", 1605634) ∷ (codes "families", 2706) ∷ (codes "off", 6122) ∷ []

parts_fit : (d : Data) (s : SceneValue) → length s.materials < 2 ^ 63 → IsOrdered d → HasParts d s → IfThere (Fits 1605634) (get (codes "clumps") d) → Fits 2191340 d
unfolding scene_rooms names_of later_names_of escape_byte
parts_fit d s few o p clumps =
    known_fits_in (is_later d) (spot names.Scene 0 0) scene_rooms d tt refl o p.known (
      version_at_fits d tt o p.version,
      (
        vector_at_fits (codes "box") (from_to 1 MAX_VOXELS) (spot names.Box 0 0) d p.size (from_to_passes 1 MAX_VOXELS (omega arith)) o p.box,
        (
          number_at_fits (codes "steps") 0 MAX_STEPS (spot names.Steps 0 0) d s.steps (omega arith) o p.steps,
          (
            number_at_fits (codes "every") 1 MAX_STEPS (spot names.Every 0 0) d s.every (omega arith) o p.every,
            (
              number_at_fits (codes "speed") 1 MAX_SPEED (spot names.Speed 0 0) d s.speed (omega arith) o p.speed,
              (
                number_at_fits (codes "spin") 1 MAX_SPIN (spot names.Spin 0 0) d s.spin (omega arith) o p.spin,
                (
                  vector_or_fits (codes "gravity") (at_most MAX_GRAVITY) (spot names.Gravity 0 0) d s.gravity (at_most_passes MAX_GRAVITY (omega arith)) o p.gravity,
                  (
                    list_at_fits 158 (codes "materials") 1 MAX_MATERIALS (spot names.Materials 0 0) material_of d s.materials material_fits o p.materials,
                    (
                      list_at_fits 2135 (codes "templates") 1 MAX_TEMPLATES (spot names.Templates 0 0) (template_of (length s.materials)) d s.templates (λ i x t. template_fits (length s.materials) i x t few) o p.templates,
                      (
                        list_or_fits 304 (codes "walls") 0 MAX_WALLS (spot names.Walls 0 0) (wall_of (length s.materials) (greatest_radius s.templates)) d s.walls (λ i x w. wall_fits (length s.materials) (greatest_radius s.templates) i x w few) o p.walls,
                        (
                          clumps,
                          (
                            motions_or_fits d s.motions o p.motions,
                            (
                              list_or_fits 44 (codes "off") 0 MAX_OFF (spot names.Off 0 0) off_of d s.off off_fits o p.off,
                              tt,
                            ),
                          ),
                        ),
                      ),
                    ),
                  ),
                ),
              ),
            ),
          ),
        ),
      ),
    )

-- ---- all of it

-- the tree with the stands is the scene with them, its text is short and without fractions, and it nests no deeper than a text may
pub record IsReplaced (stands : List Stand) (s : SceneValue) (d : Data) : Type 0 where
  pub scene : scene_of (with_clumps_of stands d) ≡ Ok (with_stands s stands)
  pub fits : Fits (2 ^ 22) (with_clumps_of stands d)
  pub shallow : depth (with_clumps_of stands d) ≤ max_depth

members_replaced : (stands : List Stand) (s : SceneValue) (ms : Members) → IsOrdered (object ms) → depth (object ms) ≤ max_depth → scene_of (object ms) ≡ Ok s → CanStand s stands → IsReplaced stands s (object ms)
unfolding old new
members_replaced stands s ms o deep e h =
    let p = scene_parts (object ms) s e in
    let b = boxed (object ms) s p in
    let few = few_templates (object ms) s p in
    let q = new_parts stands ms s b few h p in
    let list = list_fits s stands b few h.count.le_high h.clumps in
    record {
      scene = scene_new stands ms s h q;
      fits = Fits-more 2191340 (2 ^ 22) (new stands ms) (omega arith)
          (parts_fit (new stands ms) (with_stands s stands) (few_materials (object ms) s p) (new_ordered stands ms (items_ordered stands) o) q (subst (IfThere (Fits 1605634)) (sym (clumps_under stands ms)) list));
      shallow = new_depth stands ms deep;
    }

tree_replaced : (stands : List Stand) (s : SceneValue) (d : Data) → IsOrdered d → depth d ≤ max_depth → scene_of d ≡ Ok s → CanStand s stands → IsReplaced stands s d
unfolding scene_of table_of check_object_in
tree_replaced stands s null o deep e h = absurd cc
tree_replaced stands s (boolean b) o deep e h = absurd cc
tree_replaced stands s (number n) o deep e h = absurd cc
tree_replaced stands s (string t) o deep e h = absurd cc
tree_replaced stands s (array ds) o deep e h = absurd cc
tree_replaced stands s (object ms) o deep e h = members_replaced stands s ms o deep e h

tree_some : (b : Bool) (o : Option Data) (d : Data) → cond b (tree_of o) (Err NotJson) ≡ Ok d → o ≡ Some d
tree_some true None d e = absurd cc
tree_some true (Some x) d e = ap Some (ok_same x d e)
tree_some false o d e = absurd cc

-- the same for the tree of some bytes
pub replaced : (bytes : List ℕ) (stands : List Stand) (s : SceneValue) (d : Data) → json_of bytes ≡ Ok d → scene_of d ≡ Ok s → CanStand s stands → IsReplaced stands s d
unfolding json_of
replaced bytes stands s d json e h =
    let is : read bytes ≡ Some d = tree_some (is_utf8 bytes) (read bytes) d json in
    tree_replaced stands s d (order_read bytes d is) (depth-read bytes d is) e h

scene_by : (b : Bool) (bytes : List ℕ) (d : Data) (s : SceneValue) → json_of bytes ≡ Ok d → cond b (Err TooLong) (json_of bytes >>= scene_of) ≡ Ok s → scene_of d ≡ Ok s
scene_by true bytes d s json e = absurd cc
scene_by false bytes d s json e = sym (ap (λ r. r >>= scene_of) json) ∙ e

-- the scene of some bytes is that of their tree
pub scene_in : (bytes : List ℕ) (d : Data) (s : SceneValue) → json_of bytes ≡ Ok d → scene_from bytes ≡ Ok s → scene_of d ≡ Ok s
unfolding scene_from
scene_in bytes d s json e = scene_by (nat_lt MAX_TEXT (length bytes)) bytes d s json e

-- a short text whose tree is a scene is that scene
pub scene_of_text : (text : List ℕ) (d : Data) (s : SceneValue) → json_of text ≡ Ok d → length text ≤ 2 ^ 22 → scene_of d ≡ Ok s → scene_from text ≡ Ok s
unfolding scene_from
scene_of_text text d s json short e =
    let b : nat_lt MAX_TEXT (length text) ≡ false = grind (arith, nat_tests) in
    ap (λ x. cond x (Err TooLong) (json_of text >>= scene_of)) b ∙ ap (λ r. r >>= scene_of) json ∙ e

-- what the text with the stands is
pub record IsAnswer (bytes : List ℕ) (stands : List Stand) (read_as : Result SceneValue SceneFault) (text : List ℕ) : Type 0 where
  pub compact : IsWithClumps stands bytes text
  pub scene : IfOk read_as (λ s. scene_from text ≡ Ok (with_stands s stands))
  pub short : length text ≤ 2 ^ 22

-- the compact text of the tree with the stands
pub answer : (bytes : List ℕ) (stands : List Stand) (d : Data) (text : List ℕ) (read_as : Result SceneValue SceneFault) → scene_from bytes ≡ read_as → IsOk read_as → IfOk read_as (λ s. CanStand s stands) → json_of bytes ≡ Ok d → IsTextOf (with_clumps_of stands d) text → IsAnswer bytes stands read_as text
answer bytes stands d text (Err fault) is ok h json t = absurd cc
answer bytes stands d text (Ok s) is ok h json t =
    let all = replaced bytes stands s d json (scene_in bytes d s json is) h in
    let compact = t.compact all.fits.whole in
    let short : length text ≤ 2 ^ 22 = rw compact all.fits.short in
    record {
      compact = (d, json, compact);
      scene = scene_of_text text (with_clumps_of stands d) (with_stands s stands) (t.back all.shallow) short all.scene;
      short = short;
    }
