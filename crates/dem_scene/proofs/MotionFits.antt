-- Motions and families that are off, as they were read, have no fraction and short texts.
use Rattle.std.proofs.Common.{◌≡◌, ℕ, ◌+◌, ◌*◌, ◌^◌, ◌<◌, ◌≤◌, ℤ, true, ◌&&◌, List, [], ◌∷◌, Option, Some, None, Ok, option_and_then, ok_or, unsigned_abs, nat_le, codes, refl, ap, ◌∙◌, arith}
use Rattle.std.proofs.lemmas.Bool.{and_parts}
use Rattle.std.proofs.lemmas.Bool.Decides.{nat_tests}
use Rattle.json.specs.Print.{escape_byte}
use Rattle.serde_json.specs.Data.{Data, null, boolean, number, string, array, object, Items, no_items, item}
use Rattle.serde_json.specs.Find.{get, as_array}
use Rattle.dem_model.specs.declared.fault.Name.TheVariants as names
use Rattle.dem_model.specs.declared.fault.Spot.{Spot}
use Rattle.dem_model.specs.declared.fault.SceneFault.TheVariants.{Field, Range, Count}
use Rattle.dem_model.specs.declared.family.Motion.{Motion}
use Rattle.dem_model.specs.declared.family.Off.{Off}
use Rattle.dem_model.specs.declared.limits.TheConstants.{MAX_SPEED, MAX_SPIN, MAX_FAMILY, MAX_MOTIONS}
use Rattle.dem_model.specs.Reading.{◌>>=◌, spot, if_so, whole, from_to, at_most, check_object, number_at, count_of}
use Rattle.dem_model.specs.ReadingNames.{names_of}
use Rattle.dem_model.specs.ReadingVectors.{vector_at}
use Rattle.dem_model.specs.ReadingKinds.{motion_of, motions_from, pair_of_two, two_of, are_families, two_at, off_of}
use Rattle.dem_model.specs.ReadingScene.{motions_of, motions_or}
use Rattle.dem_scene.proofs.OrderFacts.{IsOrdered, AreOrdered, IfThere}
use Rattle.dem_scene.proofs.FitFacts.{Fits, Fits-more, AllFit, array_fits, Rooms}
use Rattle.dem_scene.proofs.ReadFacts.{then_ok, so_ok, some_ok, ordered_at, there_optional, whole_fits, from_to_passes, at_most_passes, number_at_fits, vector_at_fits, known_fits}

-- ---- motions

motion_rooms : Rooms
motion_rooms = (codes "id", 20) ∷ (codes "v", 65) ∷ (codes "w", 65) ∷ []

motion_fits : (least i : ℕ) (d : Data) (m : Motion) → IsOrdered d → motion_of least i d ≡ Ok m → Fits 168 d
unfolding motion_of motion_rooms names_of escape_byte
motion_fits least i d m o e =
    let a = then_ok (check_object (spot names.Families i 0) d) _ m e in
    let id = then_ok (number_at (codes "id") least MAX_FAMILY (spot names.FamiliesId i 0) d) _ m a.2 in
    let v = then_ok (vector_at (codes "v") (at_most MAX_SPEED) (spot names.FamiliesV i 0) d) _ m id.2 in
    let w = then_ok (vector_at (codes "w") (at_most MAX_SPIN) (spot names.FamiliesW i 0) d) _ m v.2 in
    known_fits (spot names.Families i 0) motion_rooms d a.0 refl o a.1 (
      number_at_fits (codes "id") least MAX_FAMILY (spot names.FamiliesId i 0) d id.0 (omega arith) o id.1,
      (
        vector_at_fits (codes "v") (at_most MAX_SPEED) (spot names.FamiliesV i 0) d v.0 (at_most_passes MAX_SPEED (omega arith)) o v.1,
        (
          vector_at_fits (codes "w") (at_most MAX_SPIN) (spot names.FamiliesW i 0) d w.0 (at_most_passes MAX_SPIN (omega arith)) o w.1,
          tt,
        ),
      ),
    )

motions_fit : (least i : ℕ) (ds : Items) (ms : List Motion) → AreOrdered ds → motions_from least i ds ≡ Ok ms → AllFit 168 ds
unfolding motions_from
motions_fit least i no_items ms o e = tt
motions_fit least i (item d ds) ms o e =
    let a = then_ok (motion_of least i d) (λ (m : Motion). motions_from (m.id + 1) (i + 1) ds >>= λ xs. Ok (m ∷ xs)) ms e in
    let b = then_ok (motions_from (a.0.id + 1) (i + 1) ds) (λ xs. Ok (a.0 ∷ xs)) ms a.2 in
    (motion_fits least i d a.0 o.0 a.1, motions_fit (a.0.id + 1) (i + 1) ds b.0 o.1 b.1)

motion_list_fits : (at : Spot) (d : Data) (ms : List Motion) → IsOrdered d → motions_of at d ≡ Ok ms → Fits 2706 d
unfolding motions_of
motion_list_fits at null ms o e = absurd cc
motion_list_fits at (boolean b) ms o e = absurd cc
motion_list_fits at (number x) ms o e = absurd cc
motion_list_fits at (string s) ms o e = absurd cc
motion_list_fits at (array ds) ms o e =
    let a = then_ok (if_so (Count at) (nat_le 0 (count_of ds) && nat_le (count_of ds) MAX_MOTIONS) ds) (motions_from 0 0) ms e in
    let b = so_ok (Count at) (nat_le 0 (count_of ds) && nat_le (count_of ds) MAX_MOTIONS) ds a.0 a.1 in
    let p = and_parts (nat_le 0 (count_of ds)) (nat_le (count_of ds) MAX_MOTIONS) b.0 in
    let few : nat_le (count_of ds) MAX_MOTIONS ≡ true = p.1 in
    let le : count_of ds ≤ MAX_MOTIONS = grind (arith, nat_tests) in
    Fits-more (2 + count_of ds * 169) 2706 (array ds) (omega (arith, le)) (array_fits 168 ds (motions_fit 0 0 ds ms o (ap (motions_from 0 0) b.1 ∙ a.2)))
motion_list_fits at (object ms) xs o e = absurd cc

-- the motions under their name fit
pub motions_or_fits : (d : Data) (ms : List Motion) → IsOrdered d → motions_or d ≡ Ok ms → IfThere (Fits 2706) (get (codes "families") d)
unfolding motions_or
motions_or_fits d ms o e =
    there_optional (Fits 2706) [] (motions_of (spot names.Families 0 0)) (get (codes "families") d) ms (ordered_at (codes "families") d o) (λ x t. motion_list_fits (spot names.Families 0 0) x ms t) e

-- ---- families that are off

pair_parts : (a b : Option ℤ) (x : ℤ × ℤ) → pair_of_two a b ≡ Some x → (a ≡ Some x.0) × (b ≡ Some x.1)
pair_parts (Some f) (Some g) x e =
    let same : (f, g) ≡ x = cc in (ap (λ (w : ℤ × ℤ). Some w.0) same, ap (λ (w : ℤ × ℤ). Some w.1) same)
pair_parts None b x e = absurd cc
pair_parts (Some f) None x e = absurd cc

items_two : (ds : Items) (x : ℤ × ℤ) → two_of ds ≡ Some x → unsigned_abs x.0 < 2 ^ 63 → unsigned_abs x.1 < 2 ^ 63 → Fits 44 (array ds)
items_two no_items x e hf hg = absurd cc
items_two (item f no_items) x e hf hg = absurd cc
items_two (item f (item g no_items)) x e hf hg =
    let p = pair_parts (whole f) (whole g) x e in
    array_fits 20 (item f (item g no_items)) (whole_fits f x.0 p.0 hf, (whole_fits g x.1 p.1 hg, tt))
items_two (item f (item g (item h ds))) x e hf hg = absurd cc

two_fits : (d : Data) (x : ℤ × ℤ) → option_and_then two_of (as_array d) ≡ Some x → unsigned_abs x.0 < 2 ^ 63 → unsigned_abs x.1 < 2 ^ 63 → Fits 44 d
two_fits null x e hf hg = absurd cc
two_fits (boolean b) x e hf hg = absurd cc
two_fits (number n) x e hf hg = absurd cc
two_fits (string s) x e hf hg = absurd cc
two_fits (array ds) x e hf hg = items_two ds x e hf hg
two_fits (object ms) x e hf hg = absurd cc

-- two families that are off fit
pub off_fits : (i : ℕ) (d : Data) (x : Off) → IsOrdered d → off_of i d ≡ Ok x → Fits 44 d
unfolding off_of two_at
off_fits i d x o e =
    let at = spot names.Off i 0 in
    let a = then_ok (ok_or (option_and_then two_of (as_array d)) (Field at)) _ x e in
    let b = so_ok (Range at) (are_families a.0) _ x a.2 in
    let p = and_parts (from_to 0 MAX_FAMILY a.0.0) (from_to 0 MAX_FAMILY a.0.1) b.0 in
    let small = from_to_passes 0 MAX_FAMILY (omega arith) in
    two_fits d a.0 (some_ok (option_and_then two_of (as_array d)) (Field at) a.0 a.1) (small a.0.0 p.0) (small a.0.1 p.1)
