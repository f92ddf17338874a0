-- Numbers, vectors and lists that were read have no fraction and short texts.
use Rattle.std.proofs.Common.{◌≡◌, ℕ, suc, ◌+◌, ◌*◌, ◌^◌, ◌<◌, ◌≤◌, ℤ, pos, negsuc, Bool, true, false, cond, ◌&&◌, ◌||◌, ◌⊎◌, List, [], ◌∷◌, ◌++◌, map, length, Option, Some, None, Result, Ok, Err, ok_or, option_and_then, unsigned_abs, nat_lt, nat_le, bytes_eq, codes, decimal, refl, ap, ◌∙◌, subst, arith, inl, inr}
use Rattle.std.specs.Prelude.{⊤}
use Rattle.std.specs.List.{list_all, list_any}
use Rattle.std.proofs.lemmas.Bool.{and_parts, or_cases, or_left, or_right}
use Rattle.std.proofs.lemmas.Bool.Decides.{nat_tests}
use Rattle.std.proofs.lemmas.List.Folds.{list_any-append}
use Rattle.std.proofs.lemmas.Fmt.{length-decimal-le}
use Rattle.std.specs.Fmt.{signed_decimal}
use Rattle.std.proofs.lemmas.Nat.{mul-le}
use Rattle.std.proofs.lemmas.Slice.Eq.{bytes_eq-Decides}
use Rattle.json.specs.Print.{quoted, escape_byte}
use Rattle.serde_json.specs.Data.{unsigned, negative, float, Data, null, boolean, number, string, array, object, Items, no_items, item}
use Rattle.serde_json.specs.Find.{get, as_array, as_str}
use Rattle.dem_num.specs.declared.vector.Vec3.{Vec3}
use Rattle.dem_model.specs.declared.fault.Name.{Name}
use Rattle.dem_model.specs.declared.fault.Spot.{Spot}
use Rattle.dem_model.specs.declared.fault.SceneFault.{SceneFault}
use Rattle.dem_model.specs.declared.fault.SceneFault.TheVariants.{Field, Unknown, Range, Index, Count, Version}
use Rattle.dem_model.specs.declared.shape.Axis.{Axis}
use Rattle.dem_model.specs.declared.shape.Axis.TheVariants.{X, Y, Z}
use Rattle.dem_model.specs.declared.limits.TheConstants.{MAX_DIRECTION}
use Rattle.dem_model.specs.Reading.{◌>>=◌, unless, if_so, required, optional, is_among, names_in, check_object, is_known_in, check_object_in, whole, from_to, at_most, below, whole_of, number_of, number_at, number_or, index_of, index_at, count_of, each_from, list_of, list_at, list_or}
use Rattle.dem_model.specs.ReadingNames.{names_of, later_names_of}
use Rattle.dem_model.specs.ReadingVectors.{vector_of_three, three_of, three_at, each_is, vector_of, vector_at, zero_vector, vector_or, direction_of, direction_at}
use Rattle.dem_model.specs.ReadingKinds.{axis_named, axis_at}
use Rattle.dem_model.specs.ReadingScene.{is_version, version_of, check_version}
use Rattle.dem_scene.proofs.OrderFacts.{IsOrdered, AreOrdered, IfThere, order_get}
use Rattle.dem_scene.proofs.FitFacts.{Fits, Fits-more, AllFit, array_fits, Rooms, room_of, AreIn, object_fits}

-- ---- steps that were made

-- a step that was made, and the next
pub then_ok : {A B : Type 0} (r : Result A SceneFault) (f : A → Result B SceneFault) (y : B) → (r >>= f) ≡ Ok y → (x : A) × (r ≡ Ok x) × (f x ≡ Ok y)
then_ok (Ok x) f y e = (x, refl, e)
then_ok (Err fault) f y e = absurd cc

-- the value of an answer
answer_or : {A : Type 0} → A → Result A SceneFault → A
answer_or x (Ok y) = y
answer_or x (Err fault) = x

pub ok_same : {A : Type 0} (x y : A) → ◌≡◌ {A = Result A SceneFault} (Ok x) (Ok y) → x ≡ y
unfolding answer_or
ok_same x y e = ap (answer_or x) e

-- a test that held
pub so_ok : {A : Type 0} (fault : SceneFault) (b : Bool) (x y : A) → if_so fault b x ≡ Ok y → (b ≡ true) × (x ≡ y)
so_ok fault true x y e = (refl, cc)
so_ok fault false x y e = absurd cc

pub unless_ok : (fault : SceneFault) (b : Bool) (u : ⊤) → unless fault b ≡ Ok u → b ≡ true
unless_ok fault true u e = refl
unless_ok fault false u e = absurd cc

pub some_ok : {A : Type 0} (o : Option A) (fault : SceneFault) (x : A) → ok_or o fault ≡ Ok x → o ≡ Some x
some_ok None fault x e = absurd cc
some_ok (Some y) fault x e = cc

-- ---- what stands under a name

pub ordered_at : (k : List ℕ) (d : Data) → IsOrdered d → IfThere IsOrdered (get k d)
ordered_at k null o = tt
ordered_at k (boolean b) o = tt
ordered_at k (number n) o = tt
ordered_at k (string s) o = tt
ordered_at k (array ds) o = tt
ordered_at k (object ms) o = order_get k ms o

there_required : {A : Type 0} (P : Data → Type 0) (at : Spot) (read : Data → Result A SceneFault) (o : Option Data) (x : A) → IfThere IsOrdered o → ((d : Data) → IsOrdered d → read d ≡ Ok x → P d) → required at read o ≡ Ok x → IfThere P o
there_required P at read None x t f e = tt
there_required P at read (Some d) x t f e = f d t e

pub there_optional : {A : Type 0} (P : Data → Type 0) (default : A) (read : Data → Result A SceneFault) (o : Option Data) (x : A) → IfThere IsOrdered o → ((d : Data) → IsOrdered d → read d ≡ Ok x → P d) → optional default read o ≡ Ok x → IfThere P o
there_optional P default read None x t f e = tt
there_optional P default read (Some d) x t f e = f d t e

-- ---- whole numbers

unsigned_fits : (n : ℕ) (b : Bool) (z : ℤ) → nat_lt n (2 ^ 63) ≡ b → cond b (Some (pos n)) None ≡ Some z → length (decimal n) ≤ 20
unsigned_fits n true z is e = length-decimal-le 20 n (omega arith) (grind (arith, nat_tests)) (grind (arith, nat_tests))
unsigned_fits n false z is e = absurd cc

signed_fits : (z : ℤ) → unsigned_abs z < 2 ^ 63 → length (signed_decimal z) ≤ 20
signed_fits (pos n) h = length-decimal-le 20 n (omega arith) (omega arith) (omega arith)
signed_fits (negsuc n) h = omega (arith, length-decimal-le 19 (suc n) (omega arith) (omega arith) (omega arith))

pub whole_fits : (d : Data) (z : ℤ) → whole d ≡ Some z → unsigned_abs z < 2 ^ 63 → Fits 20 d
whole_fits null z e h = absurd cc
whole_fits (boolean b) z e h = absurd cc
whole_fits (number (unsigned n)) z e h = record { whole = refl; short = unsigned_fits n (nat_lt n (2 ^ 63)) z refl e }
whole_fits (number (negative y)) z e h =
    let same : y ≡ z = cc in
    let small : unsigned_abs y < 2 ^ 63 = rw same h in
    record { whole = refl; short = signed_fits y small }
whole_fits (number (float x)) z e h = absurd cc
whole_fits (string s) z e h = absurd cc
whole_fits (array ds) z e h = absurd cc
whole_fits (object ms) z e h = absurd cc

pub from_to_small : (low high : ℕ) (z : ℤ) → from_to low high z ≡ true → unsigned_abs z ≤ high
unfolding from_to
from_to_small low high (pos n) e = let p = and_parts (nat_le low n) (nat_le n high) e in let q : nat_le n high ≡ true = p.1 in grind (arith, nat_tests)
from_to_small low high (negsuc n) e = absurd cc

at_most_small : (m : ℕ) (z : ℤ) → at_most m z ≡ true → unsigned_abs z ≤ m
unfolding at_most
at_most_small m z e = grind (arith, nat_tests)

below_small : (count : ℕ) (z : ℤ) → below count z ≡ true → unsigned_abs z < count
unfolding below
below_small count (pos n) e = grind (arith, nat_tests)
below_small count (negsuc n) e = absurd cc

pub number_fits : (low high : ℕ) (at : Spot) (d : Data) (n : ℕ) → high < 2 ^ 63 → number_of low high at d ≡ Ok n → Fits 20 d
unfolding number_of whole_of
number_fits low high at d n small e =
    let a = then_ok (ok_or (whole d) (Field at)) (λ z. if_so (Range at) (from_to low high z) (unsigned_abs z)) n e in
    let b = so_ok (Range at) (from_to low high a.0) (unsigned_abs a.0) n a.2 in
    whole_fits d a.0 (some_ok (whole d) (Field at) a.0 a.1) (omega (arith, from_to_small low high a.0 b.0, small))

pub index_fits : (count : ℕ) (at : Spot) (d : Data) (n : ℕ) → count < 2 ^ 63 → index_of count at d ≡ Ok n → Fits 20 d
unfolding index_of whole_of
index_fits count at d n small e =
    let a = then_ok (ok_or (whole d) (Field at)) (λ z. if_so (Index at) (below count z) (unsigned_abs z)) n e in
    let b = so_ok (Index at) (below count a.0) (unsigned_abs a.0) n a.2 in
    whole_fits d a.0 (some_ok (whole d) (Field at) a.0 a.1) (omega (arith, below_small count a.0 b.0, small))

version_small : (v : ℕ) (z : ℤ) → v < 2 ^ 63 → is_version v z ≡ true → unsigned_abs z < 2 ^ 63
version_small v (pos n) h e = grind (arith, nat_tests)
version_small v (negsuc n) h e = absurd cc

either_small : (z : ℤ) → (is_version 1 z || is_version 2 z) ≡ true → unsigned_abs z < 2 ^ 63
either_small z e =
    elim (or_cases (is_version 1 z) (is_version 2 z) e) [
      | inl one ↦ version_small 1 z (omega arith) one
      | inr two ↦ version_small 2 z (omega arith) two
    ]

version_fits : (at : Spot) (d : Data) (u : ⊤) → version_of at d ≡ Ok u → Fits 20 d
unfolding version_of whole_of
version_fits at d u e =
    let a = then_ok (ok_or (whole d) (Field at)) (λ z. unless Version (is_version 1 z || is_version 2 z)) u e in
    whole_fits d a.0 (some_ok (whole d) (Field at) a.0 a.1) (either_small a.0 (unless_ok Version (is_version 1 a.0 || is_version 2 a.0) u a.2))

-- ---- vectors

three_parts : (a b c : Option ℤ) (v : Vec3) → vector_of_three a b c ≡ Some v → (a ≡ Some v.x) × (b ≡ Some v.y) × (c ≡ Some v.z)
three_parts (Some x) (Some y) (Some z) v e =
    let same : record { x = x; y = y; z = z } ≡ v = cc in (ap (λ (w : Vec3). Some w.x) same, ap (λ (w : Vec3). Some w.y) same, ap (λ (w : Vec3). Some w.z) same)
three_parts None b c v e = absurd cc
three_parts (Some x) None c v e = absurd cc
three_parts (Some x) (Some y) None v e = absurd cc

items_three : (ds : Items) (v : Vec3) → three_of ds ≡ Some v → unsigned_abs v.x < 2 ^ 63 → unsigned_abs v.y < 2 ^ 63 → unsigned_abs v.z < 2 ^ 63 → Fits 65 (array ds)
items_three no_items v e hx hy hz = absurd cc
items_three (item x no_items) v e hx hy hz = absurd cc
items_three (item x (item y no_items)) v e hx hy hz = absurd cc
items_three (item x (item y (item z no_items))) v e hx hy hz =
    let p = three_parts (whole x) (whole y) (whole z) v e in
    array_fits 20 (item x (item y (item z no_items))) (whole_fits x v.x p.0 hx, (whole_fits y v.y p.1 hy, (whole_fits z v.z p.2 hz, tt)))
items_three (item x (item y (item z (item w ds)))) v e hx hy hz = absurd cc

three_fits : (d : Data) (v : Vec3) → option_and_then three_of (as_array d) ≡ Some v → unsigned_abs v.x < 2 ^ 63 → unsigned_abs v.y < 2 ^ 63 → unsigned_abs v.z < 2 ^ 63 → Fits 65 d
three_fits null v e hx hy hz = absurd cc
three_fits (boolean b) v e hx hy hz = absurd cc
three_fits (number n) v e hx hy hz = absurd cc
three_fits (string s) v e hx hy hz = absurd cc
three_fits (array ds) v e hx hy hz = items_three ds v e hx hy hz
three_fits (object ms) v e hx hy hz = absurd cc

pub each_parts : (a b c : Bool) → (a && b && c) ≡ true → (a ≡ true) × (b ≡ true) × (c ≡ true)
each_parts true true true e = (refl, refl, refl)
each_parts true true false e = absurd cc
each_parts true false c e = absurd cc
each_parts false b c e = absurd cc

-- a test that only small numbers pass
abbrev pub PassesSmall : (ℤ → Bool) → Type 0
PassesSmall test = (z : ℤ) → test z ≡ true → unsigned_abs z < 2 ^ 63

pub from_to_passes : (low high : ℕ) → high < 2 ^ 63 → PassesSmall (from_to low high)
from_to_passes low high h z e = omega (arith, from_to_small low high z e, h)

pub at_most_passes : (m : ℕ) → m < 2 ^ 63 → PassesSmall (at_most m)
at_most_passes m h z e = omega (arith, at_most_small m z e, h)

pub vector_fits : (test : ℤ → Bool) (at : Spot) (d : Data) (v : Vec3) → PassesSmall test → vector_of test at d ≡ Ok v → (Fits 65 d) × (test v.x ≡ true) × (test v.y ≡ true) × (test v.z ≡ true)
unfolding vector_of three_at
vector_fits test at d v small e =
    let a = then_ok (ok_or (option_and_then three_of (as_array d)) (Field at)) (λ w. if_so (Range at) (each_is test w) w) v e in
    let b = so_ok (Range at) (each_is test a.0) a.0 v a.2 in
    let p = each_parts (test a.0.x) (test a.0.y) (test a.0.z) b.0 in
    let fits = three_fits d a.0 (some_ok (option_and_then three_of (as_array d)) (Field at) a.0 a.1) (small a.0.x p.0) (small a.0.y p.1) (small a.0.z p.2) in
    (fits, subst (λ (w : Vec3). test w.x ≡ true) b.1 p.0, subst (λ (w : Vec3). test w.y ≡ true) b.1 p.1, subst (λ (w : Vec3). test w.z ≡ true) b.1 p.2)

direction_fits : (at : Spot) (d : Data) (v : Vec3) → direction_of at d ≡ Ok v → Fits 65 d
unfolding direction_of
direction_fits at d v e =
    let a = then_ok (vector_of (at_most MAX_DIRECTION) at d) _ v e in
    (vector_fits (at_most MAX_DIRECTION) at d a.0 (at_most_passes MAX_DIRECTION (omega arith)) a.1).0

-- ---- an axis

chosen : (s t : List ℕ) (b : Bool) (x : Axis) (rest : Result Axis SceneFault) (a : Axis) → bytes_eq s t ≡ b → cond b (Ok x) rest ≡ Ok a → (s ≡ t) ⊎ (rest ≡ Ok a)
chosen s t true x rest a is e = inl ((bytes_eq-Decides s t).0 is)
chosen s t false x rest a is e = inr e

axis_text : (at : Spot) (s : List ℕ) (a : Axis) → axis_named at (Some s) ≡ Ok a → length (quoted s) ≤ 3
unfolding escape_byte
axis_text at s a e =
    elim (chosen s (codes "x") (bytes_eq s (codes "x")) X _ a refl e) [
      | inl is ↦ let n : length (quoted (codes "x")) ≡ 3 = refl in rw is (omega (arith, n))
      | inr f ↦ elim (chosen s (codes "y") (bytes_eq s (codes "y")) Y _ a refl f) [
        | inl is ↦ let n : length (quoted (codes "y")) ≡ 3 = refl in rw is (omega (arith, n))
        | inr g ↦ elim (chosen s (codes "z") (bytes_eq s (codes "z")) Z _ a refl g) [
          | inl is ↦ let n : length (quoted (codes "z")) ≡ 3 = refl in rw is (omega (arith, n))
          | inr h ↦ absurd cc
        ]
      ]
    ]

axis_fits : (at : Spot) (d : Data) (a : Axis) → axis_named at (as_str d) ≡ Ok a → Fits 3 d
axis_fits at null a e = absurd cc
axis_fits at (boolean b) a e = absurd cc
axis_fits at (number n) a e = absurd cc
axis_fits at (string s) a e = record { whole = refl; short = axis_text at s a e }
axis_fits at (array ds) a e = absurd cc
axis_fits at (object ms) a e = absurd cc

-- ---- lists

-- what a reading takes fits
abbrev pub ReadsFit : {A : Type 0} → ℕ → (ℕ → Data → Result A SceneFault) → Type 0
ReadsFit {A} n read = (i : ℕ) (d : Data) (x : A) → IsOrdered d → read i d ≡ Ok x → Fits n d

each_fits : {A : Type 0} (n : ℕ) (read : ℕ → Data → Result A SceneFault) (i : ℕ) (ds : Items) (xs : List A) → ReadsFit n read → AreOrdered ds → each_from read i ds ≡ Ok xs → AllFit n ds
unfolding each_from
each_fits n read i no_items xs f o e = tt
each_fits n read i (item d ds) xs f o e =
    let a = then_ok (read i d) (λ x. each_from read (i + 1) ds >>= λ ys. Ok (x ∷ ys)) xs e in
    let b = then_ok (each_from read (i + 1) ds) (λ ys. Ok (a.0 ∷ ys)) xs a.2 in
    (f i d a.0 o.0 a.1, each_fits n read (i + 1) ds b.0 f o.1 b.1)

list_fits : {A : Type 0} (n low high : ℕ) (at : Spot) (read : ℕ → Data → Result A SceneFault) (d : Data) (xs : List A) → ReadsFit n read → IsOrdered d → list_of low high at read d ≡ Ok xs → Fits (2 + high * (n + 1)) d
unfolding list_of
list_fits n low high at read null xs f o e = absurd cc
list_fits n low high at read (boolean b) xs f o e = absurd cc
list_fits n low high at read (number x) xs f o e = absurd cc
list_fits n low high at read (string s) xs f o e = absurd cc
list_fits n low high at read (array ds) xs f o e =
    let a = then_ok (if_so (Count at) (nat_le low (count_of ds) && nat_le (count_of ds) high) ds) (each_from read 0) xs e in
    let b = so_ok (Count at) (nat_le low (count_of ds) && nat_le (count_of ds) high) ds a.0 a.1 in
    let p = and_parts (nat_le low (count_of ds)) (nat_le (count_of ds) high) b.0 in
    let few : nat_le (count_of ds) high ≡ true = p.1 in
    let le : count_of ds ≤ high = grind (arith, nat_tests) in
    let all = each_fits n read 0 ds xs f o (ap (each_from read 0) b.1 ∙ a.2) in
    Fits-more (2 + count_of ds * (n + 1)) (2 + high * (n + 1)) (array ds) (grind (arith, mul-le)) (array_fits n ds all)
list_fits n low high at read (object ms) xs f o e = absurd cc

-- ---- each under its name

pub number_at_fits : (name : List ℕ) (low high : ℕ) (at : Spot) (d : Data) (n : ℕ) → high < 2 ^ 63 → IsOrdered d → number_at name low high at d ≡ Ok n → IfThere (Fits 20) (get name d)
unfolding number_at
number_at_fits name low high at d n small o e = there_required (Fits 20) at (number_of low high at) (get name d) n (ordered_at name d o) (λ x _. number_fits low high at x n small) e

pub number_or_fits : (name : List ℕ) (low high : ℕ) (at : Spot) (d : Data) (n : ℕ) → high < 2 ^ 63 → IsOrdered d → number_or name low high at d ≡ Ok n → IfThere (Fits 20) (get name d)
unfolding number_or
number_or_fits name low high at d n small o e = there_optional (Fits 20) 0 (number_of low high at) (get name d) n (ordered_at name d o) (λ x _. number_fits low high at x n small) e

pub index_at_fits : (name : List ℕ) (count : ℕ) (at : Spot) (d : Data) (n : ℕ) → count < 2 ^ 63 → IsOrdered d → index_at name count at d ≡ Ok n → IfThere (Fits 20) (get name d)
unfolding index_at
index_at_fits name count at d n small o e = there_required (Fits 20) at (index_of count at) (get name d) n (ordered_at name d o) (λ x _. index_fits count at x n small) e

pub vector_at_fits : (name : List ℕ) (test : ℤ → Bool) (at : Spot) (d : Data) (v : Vec3) → PassesSmall test → IsOrdered d → vector_at name test at d ≡ Ok v → IfThere (Fits 65) (get name d)
unfolding vector_at
vector_at_fits name test at d v small o e = there_required (Fits 65) at (vector_of test at) (get name d) v (ordered_at name d o) (λ x _ h. (vector_fits test at x v small h).0) e

pub vector_or_fits : (name : List ℕ) (test : ℤ → Bool) (at : Spot) (d : Data) (v : Vec3) → PassesSmall test → IsOrdered d → vector_or name test at d ≡ Ok v → IfThere (Fits 65) (get name d)
unfolding vector_or
vector_or_fits name test at d v small o e = there_optional (Fits 65) zero_vector (vector_of test at) (get name d) v (ordered_at name d o) (λ x _ h. (vector_fits test at x v small h).0) e

pub direction_at_fits : (name : List ℕ) (at : Spot) (d : Data) (v : Vec3) → IsOrdered d → direction_at name at d ≡ Ok v → IfThere (Fits 65) (get name d)
unfolding direction_at
direction_at_fits name at d v o e = there_required (Fits 65) at (direction_of at) (get name d) v (ordered_at name d o) (λ x _. direction_fits at x v) e

pub axis_at_fits : (name : List ℕ) (at : Spot) (d : Data) (a : Axis) → IsOrdered d → axis_at name at d ≡ Ok a → IfThere (Fits 3) (get name d)
unfolding axis_at
axis_at_fits name at d a o e = there_required (Fits 3) at (λ v. axis_named at (as_str v)) (get name d) a (ordered_at name d o) (λ x _. axis_fits at x a) e

pub version_at_fits : (d : Data) (u : ⊤) → IsOrdered d → check_version d ≡ Ok u → IfThere (Fits 20) (get (codes "version") d)
unfolding check_version
version_at_fits d u o e = there_required (Fits 20) _ _ (get (codes "version") d) u (ordered_at (codes "version") d o) (λ x _. version_fits _ x u) e

pub list_at_fits : {A : Type 0} (n : ℕ) (name : List ℕ) (low high : ℕ) (at : Spot) (read : ℕ → Data → Result A SceneFault) (d : Data) (xs : List A) → ReadsFit n read → IsOrdered d → list_at name low high at read d ≡ Ok xs → IfThere (Fits (2 + high * (n + 1))) (get name d)
unfolding list_at
list_at_fits n name low high at read d xs f o e = there_required (Fits (2 + high * (n + 1))) at (list_of low high at read) (get name d) xs (ordered_at name d o) (λ x t. list_fits n low high at read x xs f t) e

pub list_or_fits : {A : Type 0} (n : ℕ) (name : List ℕ) (low high : ℕ) (at : Spot) (read : ℕ → Data → Result A SceneFault) (d : Data) (xs : List A) → ReadsFit n read → IsOrdered d → list_or name low high at read d ≡ Ok xs → IfThere (Fits (2 + high * (n + 1))) (get name d)
unfolding list_or
list_or_fits n name low high at read d xs f o e = there_optional (Fits (2 + high * (n + 1))) [] (list_of low high at read) (get name d) xs (ordered_at name d o) (λ x t. list_fits n low high at read x xs f t) e

-- ---- objects

-- an object of a place, each of whose names has a value that fits
pub known_fits : (at : Spot) (rs : Rooms) (d : Data) (u : ⊤) → names_of at.name ≡ map (λ r. r.0) rs → IsOrdered d → check_object at d ≡ Ok u → AreIn rs d → Fits (2 + room_of rs) d
unfolding check_object
known_fits at rs null u same o e t = absurd cc
known_fits at rs (boolean b) u same o e t = absurd cc
known_fits at rs (number n) u same o e t = absurd cc
known_fits at rs (string s) u same o e t = absurd cc
known_fits at rs (array ds) u same o e t = absurd cc
known_fits at rs (object ms) u same o e t =
    let known = unless_ok (Unknown at) (list_all (is_among (names_of at.name)) (names_in ms)) u e in
    object_fits rs ms o (subst (λ ns. list_all (is_among ns) (names_in ms) ≡ true) same known) t

both_hold : (a b : Bool) → a ≡ true → b ≡ true → (a && b) ≡ true
both_hold true b p q = q
both_hold false b p q = p

all_weaker : (p q : List ℕ → Bool) → ((k : List ℕ) → p k ≡ true → q k ≡ true) → (ks : List (List ℕ)) → list_all p ks ≡ true → list_all q ks ≡ true
all_weaker p q f [] e = refl
all_weaker p q f (k ∷ ks) e =
    let parts = and_parts (p k) (list_all p ks) e in
    both_hold (q k) (list_all q ks) (f k parts.0) (all_weaker p q f ks parts.1)

-- a name that is known in some version is one of those of both versions
known_some : (later : Bool) (name : Name) (k : List ℕ) → is_known_in later name k ≡ true → is_among (names_of name ++ later_names_of name) k ≡ true
unfolding is_known_in is_among
known_some later name k e =
    list_any-append (λ m. bytes_eq k m) (names_of name) (later_names_of name) ∙ elim (or_cases (is_among (names_of name) k) (later && is_among (later_names_of name) k) e) [
      | inl h ↦ or_left (list_any (λ m. bytes_eq k m) (names_of name)) (list_any (λ m. bytes_eq k m) (later_names_of name)) h
      | inr h ↦ or_right (list_any (λ m. bytes_eq k m) (names_of name)) (list_any (λ m. bytes_eq k m) (later_names_of name)) (and_parts later (is_among (later_names_of name) k) h).1
    ]

-- an object of a place, each of whose names, in either version, has a value that fits
pub known_fits_in : (later : Bool) (at : Spot) (rs : Rooms) (d : Data) (u : ⊤) → (names_of at.name ++ later_names_of at.name) ≡ map (λ r. r.0) rs → IsOrdered d → check_object_in later at d ≡ Ok u → AreIn rs d → Fits (2 + room_of rs) d
unfolding check_object_in
known_fits_in later at rs null u same o e t = absurd cc
known_fits_in later at rs (boolean b) u same o e t = absurd cc
known_fits_in later at rs (number n) u same o e t = absurd cc
known_fits_in later at rs (string s) u same o e t = absurd cc
known_fits_in later at rs (array ds) u same o e t = absurd cc
known_fits_in later at rs (object ms) u same o e t =
    let known = unless_ok (Unknown at) (list_all (is_known_in later at.name) (names_in ms)) u e in
    let among = all_weaker (is_known_in later at.name) (is_among (names_of at.name ++ later_names_of at.name)) (known_some later at.name) (names_in ms) known in
    object_fits rs ms o (subst (λ ns. list_all (is_among ns) (names_in ms) ≡ true) same among) t
