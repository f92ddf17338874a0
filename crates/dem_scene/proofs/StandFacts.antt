-- Stands that a scene can have are read as its clumps, within its limits and inside its box, and their texts are short.
use Rattle.std.proofs.Common.{◌≡◌, ℕ, suc, ◌+◌, ◌-◌, ◌*◌, ◌^◌, ◌<◌, ◌≤◌, ℤ, pos, negsuc, Bool, true, cond, ◌&&◌, List, [], ◌∷◌, map, length, Some, None, Ok, codes, unsigned_abs, nat_lt, nat_le, All, refl, ap, arith}
use Rattle.std.specs.Prelude.{ok_or, option_and_then}
use Rattle.std.proofs.lemmas.Bool.Decides.{nat_tests}
use Rattle.std.proofs.lemmas.List.{length-append, length-map}
use Rattle.std.proofs.lemmas.List.Elements.{All-head, All-tail}
use Rattle.std.proofs.lemmas.List.Sums.{list_all-from_AllPass}
use Rattle.json.specs.Print.{escape_byte}
use Rattle.serde_json.specs.Data.{depth, items_depth, unsigned, number, array, no_items, item, no_members, member}
use Rattle.serde_json.specs.Find.{as_array}
use Rattle.dem_num.specs.declared.vector.Vec3.{Vec3}
use Rattle.dem_num.specs.Vectors.{widened}
use Rattle.dem_model.specs.declared.fault.Spot.{Spot}
use Rattle.dem_model.specs.declared.fault.Name.TheVariants as names
use Rattle.dem_model.specs.declared.fault.SceneFault.TheVariants.{Range, Field, Index, Count, OutsideBox, OverLimit}
use Rattle.dem_model.specs.declared.shape.Ball.{Ball}
use Rattle.dem_model.specs.declared.shape.Template.{Template}
use Rattle.dem_model.specs.declared.state.Stand.{Stand}
use Rattle.dem_model.specs.declared.limits.TheConstants.{MAX_VOXELS, MAX_POINT, MAX_SPHERES, MAX_CLUMPS}
use Rattle.dem_model.specs.SceneValue.{SceneValue}
use Rattle.dem_model.specs.Position.{in_voxels, in_box}
use Rattle.dem_model.specs.Spheres.{balls_of, sphere_of, spheres_of_clump, spheres_from, center_of}
use Rattle.dem_model.specs.Sound.{IsClump}
use Rattle.dem_model.specs.Stands.{standing_body, standing, with_stands}
use Rattle.dem_model.specs.Reading.{spot, unless, if_so, is_among, from_to, at_most, below, is_known_in, check_object_in, whole, whole_of, number_or, index_of, index_at, count_of}
use Rattle.dem_model.specs.ReadingNames.{names_of}
use Rattle.dem_model.specs.ReadingVectors.{vector_of_three, three_of, each_is, three_at, vector_of, vector_at, vector_or, quaternion_or}
use Rattle.dem_model.specs.ReadingKinds.{ball_count, check_total, clump_of, clumps_from}
use Rattle.dem_model.specs.ReadingScene.{in_limits, centers_inside, is_inside, check_clump, check_clumps}
use Rattle.dem_scene.specs.Stands.{whole_data, vector_data, stand_data, stand_items}
use Rattle.dem_scene.proofs.FitFacts.{Fits, Fits-more, AllFit, array_fits, Rooms, object_fits}
use Rattle.dem_scene.proofs.ReadFacts.{each_parts, whole_fits}
use Rattle.dem_scene.proofs.PartFacts.{then_gives}

-- ---- numbers and places

-- a number within 64 bits is read as itself
whole_back : (z : ℤ) → unsigned_abs z < 2 ^ 63 → whole (whole_data z) ≡ Some z
whole_back (pos n) h = let b : nat_lt n (2 ^ 63) ≡ true = grind (arith, nat_tests) in ap (λ x. cond x (Some (pos n)) None) b
whole_back (negsuc n) h = refl

inside_axis : (n : ℕ) (z : ℤ) → n ≤ MAX_VOXELS → in_voxels n z ≡ true → from_to 0 (MAX_POINT - 1) z ≡ true
unfolding in_voxels from_to
inside_axis n (pos m) few e = grind (arith, nat_tests)
inside_axis n (negsuc m) few e = absurd cc

small_axis : (z : ℤ) → from_to 0 (MAX_POINT - 1) z ≡ true → unsigned_abs z < 2 ^ 63
unfolding from_to
small_axis (pos m) e = grind (arith, nat_tests)
small_axis (negsuc m) e = absurd cc

all_true : (a b c : Bool) → a ≡ true → b ≡ true → c ≡ true → (a && b && c) ≡ true
all_true a b c p q r = rw (p, q, r) refl

-- a position of which each component is on its axis
pub record IsPlace (v : Vec3) : Type 0 where
  pub x : from_to 0 (MAX_POINT - 1) v.x ≡ true
  pub y : from_to 0 (MAX_POINT - 1) v.y ≡ true
  pub z : from_to 0 (MAX_POINT - 1) v.z ≡ true

-- the box is no longer than a box may be
pub record IsBoxed (s : SceneValue) : Type 0 where
  pub nx : s.nx ≤ MAX_VOXELS
  pub ny : s.ny ≤ MAX_VOXELS
  pub nz : s.nz ≤ MAX_VOXELS

place_in : (s : SceneValue) (v : Vec3) → IsBoxed s → in_box s (widened v) ≡ true → IsPlace v
unfolding in_box
place_in s v b e =
    let p = each_parts (in_voxels s.nx v.x) (in_voxels s.ny v.y) (in_voxels s.nz v.z) e in
    record { x = inside_axis s.nx v.x b.nx p.0; y = inside_axis s.ny v.y b.ny p.1; z = inside_axis s.nz v.z b.nz p.2 }

-- ---- a stand is read as its clump

index_back : (count t : ℕ) (at : Spot) → t < count → count < 2 ^ 63 → index_of count at (number (unsigned t)) ≡ Ok t
unfolding index_of whole_of below
index_back count t at there few =
    let here : nat_lt t count ≡ true = grind (arith, nat_tests) in
    then_gives (ok_or (whole (number (unsigned t))) (Field at)) _ (pos t) t (ap (λ o. ok_or o (Field at)) (whole_back (pos t) (omega arith))) (ap (λ b. if_so (Index at) b t) here)

vector_back : (at : Spot) (v : Vec3) → IsPlace v → vector_of (from_to 0 (MAX_POINT - 1)) at (vector_data v) ≡ Ok v
unfolding vector_of three_at
vector_back at v h =
    let three : vector_of_three (whole (whole_data v.x)) (whole (whole_data v.y)) (whole (whole_data v.z)) ≡ Some v =
    rw (whole_back v.x (small_axis v.x h.x), whole_back v.y (small_axis v.y h.y), whole_back v.z (small_axis v.z h.z)) refl in
    let each : each_is (from_to 0 (MAX_POINT - 1)) v ≡ true = all_true _ _ _ h.x h.y h.z in
    then_gives (ok_or (option_and_then three_of (as_array (vector_data v))) (Field at)) _ v v (ap (λ o. ok_or o (Field at)) three) (ap (λ b. if_so (Range at) b v) each)

stand_known : (later : Bool) (i : ℕ) (x : Stand) → check_object_in later (spot names.Clumps i 0) (stand_data x) ≡ Ok tt
unfolding check_object_in is_known_in is_among names_of
stand_known later i x = refl

stand_read : (later : Bool) (templates : List Template) (before i : ℕ) (x : Stand) → length templates < 2 ^ 63 → x.t < length templates → IsPlace x.p → before + ball_count templates x.t ≤ MAX_SPHERES → clump_of later templates before i (stand_data x) ≡ Ok (standing x)
unfolding clump_of index_at number_or vector_at vector_or quaternion_or check_total
stand_read later templates before i x few there place room =
    let total : nat_le (before + ball_count templates x.t) MAX_SPHERES ≡ true = grind (arith, nat_tests) in
    then_gives (check_object_in later (spot names.Clumps i 0) (stand_data x)) _ tt (standing x) (stand_known later i x) (
    then_gives (index_at (codes "t") (length templates) (spot names.ClumpsT i 0) (stand_data x)) _ x.t (standing x) (index_back (length templates) x.t (spot names.ClumpsT i 0) there few) (
    then_gives (vector_at (codes "p") (from_to 0 (MAX_POINT - 1)) (spot names.ClumpsP i 0) (stand_data x)) _ x.p (standing x) (vector_back (spot names.ClumpsP i 0) x.p place) (
    then_gives (check_total (before + ball_count templates x.t) (spot names.ClumpsTotal i 0)) (λ _. Ok (standing x)) tt (standing x) (ap (unless (Count (spot names.ClumpsTotal i 0))) total) refl)))

-- what each stand has that a scene can have
pub record IsStand (s : SceneValue) (x : Stand) : Type 0 where
  pub t : x.t < length s.templates
  pub place : IsPlace x.p

stand_in : (s : SceneValue) (x : Stand) → IsBoxed s → IsClump s (standing x) → IsStand s x
stand_in s x b h = record { t = h.t; place = place_in s x.p b h.body.body.p }

-- stands are read as their clumps
pub stands_read : (later : Bool) (s : SceneValue) (before k i : ℕ) (stands : List Stand) → IsBoxed s → length s.templates < 2 ^ 63 → All (λ (x : Stand). IsClump s (standing x)) stands
    → before + length (spheres_from s.templates k (map standing stands)) ≤ MAX_SPHERES → clumps_from later s.templates before i (stand_items stands) ≡ Ok (map standing stands)
unfolding clumps_from spheres_from spheres_of_clump ball_count
stands_read later s before k i [] b few h room = refl
stands_read later s before k i (x ∷ xs) b few h room =
    let x_in = stand_in s x b (All-head (λ (y : Stand). IsClump s (standing y)) x xs h) in
    let own = length-map (balls_of s.templates x.t) (sphere_of k) in
    let both = length-append (map (sphere_of k) (balls_of s.templates x.t)) (spheres_from s.templates (k + 1) (map standing xs)) in
    then_gives (clump_of later s.templates before i (stand_data x)) _ (standing x) (standing x ∷ map standing xs) (stand_read later s.templates before i x few x_in.t x_in.place (omega (arith, room, own, both))) (
    then_gives (clumps_from later s.templates (before + ball_count s.templates x.t) (i + 1) (stand_items xs)) _ (map standing xs) (standing x ∷ map standing xs)
    (stands_read later s (before + ball_count s.templates x.t) (k + 1) (i + 1) xs b few (All-tail (λ (y : Stand). IsClump s (standing y)) x xs h) (omega (arith, room, own, both))) refl)

-- as many objects as stands
pub stand_count : (stands : List Stand) → count_of (stand_items stands) ≡ length stands
stand_count [] = refl
stand_count (x ∷ xs) = ap suc (stand_count xs)

-- ---- stands are within the limits and inside the box

at_zero : (m : ℕ) → at_most m (pos 0) ≡ true
unfolding at_most
at_zero m = grind (arith, nat_tests)

in_both : (a b : Bool) → a ≡ true → b ≡ true → (a && b) ≡ true
in_both a b p q = rw (p, q) refl

stand_limits : (s : SceneValue) (x : Stand) → in_limits s (standing_body x) ≡ true
unfolding in_limits
stand_limits s x = in_both _ _ (all_true _ _ _ (at_zero s.speed) (at_zero s.speed) (at_zero s.speed)) (all_true _ _ _ (at_zero s.spin) (at_zero s.spin) (at_zero s.spin))

stand_inside : (s : SceneValue) (all : List Stand) (x : Stand) → IsClump s (standing x) → is_inside (with_stands s all) (standing_body x) (balls_of s.templates x.t) ≡ true
unfolding is_inside centers_inside in_box
stand_inside s all x h =
    in_both _ _ h.body.body.p (list_all-from_AllPass (λ (b : Ball). in_box (with_stands s all) (center_of (standing_body x) b)) (balls_of s.templates x.t) h.body.centers)

stand_checked : (s : SceneValue) (all : List Stand) (i : ℕ) (x : Stand) → IsClump s (standing x) → check_clump (with_stands s all) i (standing x) ≡ Ok tt
unfolding check_clump
stand_checked s all i x h =
    then_gives (unless (OverLimit i) (in_limits (with_stands s all) (standing_body x))) _ tt tt (ap (unless (OverLimit i)) (stand_limits (with_stands s all) x)) (ap (unless (OutsideBox i)) (stand_inside s all x h))

pub stands_checked : (s : SceneValue) (all : List Stand) (i : ℕ) (stands : List Stand) → All (λ (x : Stand). IsClump s (standing x)) stands → check_clumps (with_stands s all) i (map standing stands) ≡ Ok tt
unfolding check_clumps
stands_checked s all i [] h = refl
stands_checked s all i (x ∷ xs) h =
    then_gives (check_clump (with_stands s all) i (standing x)) _ tt tt (stand_checked s all i x (All-head (λ (y : Stand). IsClump s (standing y)) x xs h)) (stands_checked s all (i + 1) xs (All-tail (λ (y : Stand). IsClump s (standing y)) x xs h))

-- ---- the text of stands

stand_rooms : Rooms
stand_rooms = (codes "p", 65) ∷ (codes "t", 20) ∷ []

place_fits : (v : Vec3) → IsPlace v → Fits 65 (vector_data v)
place_fits v h =
    let component = λ (z : ℤ) (e : from_to 0 (MAX_POINT - 1) z ≡ true). whole_fits (whole_data z) z (whole_back z (small_axis z e)) (small_axis z e) in
    array_fits 20 (item (whole_data v.x) (item (whole_data v.y) (item (whole_data v.z) no_items))) (component v.x h.x, (component v.y h.y, (component v.z h.z, tt)))

stand_fits : (s : SceneValue) (x : Stand) → length s.templates < 2 ^ 63 → IsStand s x → Fits 97 (stand_data x)
unfolding stand_rooms is_among escape_byte
stand_fits s x few h =
    let index : Fits 20 (number (unsigned x.t)) = whole_fits (number (unsigned x.t)) (pos x.t) (whole_back (pos x.t) (omega (arith, few, h.t))) (omega (arith, few, h.t)) in
    object_fits stand_rooms (member (codes "p") (vector_data x.p) (member (codes "t") (number (unsigned x.t)) no_members))
    ((refl, tt), (tt, (tt, (tt, tt))), (tt, tt, tt)) refl (place_fits x.p h.place, (index, tt))

stands_fit : (s : SceneValue) (stands : List Stand) → IsBoxed s → length s.templates < 2 ^ 63 → All (λ (x : Stand). IsClump s (standing x)) stands → AllFit 97 (stand_items stands)
stands_fit s [] b few h = tt
stands_fit s (x ∷ xs) b few h =
    (stand_fits s x few (stand_in s x b (All-head (λ (y : Stand). IsClump s (standing y)) x xs h)), stands_fit s xs b few (All-tail (λ (y : Stand). IsClump s (standing y)) x xs h))

-- the list of stands has no fraction and a short text
pub list_fits : (s : SceneValue) (stands : List Stand) → IsBoxed s → length s.templates < 2 ^ 63 → length stands ≤ MAX_CLUMPS → All (λ (x : Stand). IsClump s (standing x)) stands → Fits 1605634 (array (stand_items stands))
list_fits s stands b few count h =
    Fits-more (2 + count_of (stand_items stands) * 98) 1605634 (array (stand_items stands)) (omega (arith, stand_count stands, count)) (array_fits 97 (stand_items stands) (stands_fit s stands b few h))

-- ---- how deep it nests

items_shallow : (stands : List Stand) → items_depth (stand_items stands) ≤ 2
items_shallow [] = omega arith
items_shallow (x ∷ xs) = omega (arith, items_shallow xs)

pub list_shallow : (stands : List Stand) → depth (array (stand_items stands)) ≤ 3
list_shallow stands = omega (arith, items_shallow stands)
