-- The parts of a scene text's table, one by one, and the table that they make.
use Rattle.std.proofs.Common.{◌≡◌, ℕ, ◌+◌, ◌≤◌, Bool, true, ◌&&◌, ℤ, unsigned_abs, List, [], ◌∷◌, length, Option, Some, None, Result, Ok, codes, nat_le, refl, sym, ap, ◌∙◌, subst, arith}
use Rattle.std.proofs.lemmas.Bool.{and_parts}
use Rattle.std.proofs.lemmas.Bool.Decides.{nat_tests}
use Rattle.serde_json.specs.Data.{Data, null, boolean, number, string, array, object, Items, no_items, item}
use Rattle.serde_json.specs.Find.{get}
use Rattle.dem_num.specs.declared.vector.Vec3.{Vec3}
use Rattle.dem_model.specs.declared.fault.Spot.{Spot}
use Rattle.dem_model.specs.declared.fault.Name.TheVariants as names
use Rattle.dem_model.specs.declared.fault.SceneFault.{SceneFault}
use Rattle.dem_model.specs.declared.fault.SceneFault.TheVariants.{Count}
use Rattle.dem_model.specs.declared.limits.TheConstants.{MAX_VOXELS, MAX_STEPS, MAX_SPEED, MAX_SPIN, MAX_GRAVITY, MAX_MATERIALS, MAX_TEMPLATES, MAX_WALLS, MAX_OFF}
use Rattle.dem_model.specs.SceneValue.{SceneValue}
use Rattle.dem_model.specs.Reading.{◌>>=◌, spot, if_so, required, from_to, at_most, check_object_in, number_at, count_of, each_from, list_of, list_at, list_or}
use Rattle.dem_model.specs.ReadingVectors.{vector_of, vector_at, vector_or}
use Rattle.dem_model.specs.ReadingKinds.{material_of, template_of, greatest_radius, wall_of, off_of}
use Rattle.dem_model.specs.ReadingScene.{is_later, check_version, motions_or, clumps_at, table_of}
use Rattle.dem_scene.proofs.ReadFacts.{then_ok, ok_same, so_ok, vector_fits, PassesSmall}

-- what the table reads, part by part
pub record HasParts (d : Data) (s : SceneValue) : Type 0 where
  pub known : check_object_in (is_later d) (spot names.Scene 0 0) d ≡ Ok tt
  pub version : check_version d ≡ Ok tt
  pub size : Vec3
  pub box : vector_at (codes "box") (from_to 1 MAX_VOXELS) (spot names.Box 0 0) d ≡ Ok size
  pub steps : number_at (codes "steps") 0 MAX_STEPS (spot names.Steps 0 0) d ≡ Ok s.steps
  pub every : number_at (codes "every") 1 MAX_STEPS (spot names.Every 0 0) d ≡ Ok s.every
  pub speed : number_at (codes "speed") 1 MAX_SPEED (spot names.Speed 0 0) d ≡ Ok s.speed
  pub spin : number_at (codes "spin") 1 MAX_SPIN (spot names.Spin 0 0) d ≡ Ok s.spin
  pub gravity : vector_or (codes "gravity") (at_most MAX_GRAVITY) (spot names.Gravity 0 0) d ≡ Ok s.gravity
  pub materials : list_at (codes "materials") 1 MAX_MATERIALS (spot names.Materials 0 0) material_of d ≡ Ok s.materials
  pub templates : list_at (codes "templates") 1 MAX_TEMPLATES (spot names.Templates 0 0) (template_of (length s.materials)) d ≡ Ok s.templates
  pub walls : list_or (codes "walls") 0 MAX_WALLS (spot names.Walls 0 0) (wall_of (length s.materials) (greatest_radius s.templates)) d ≡ Ok s.walls
  pub motions : motions_or d ≡ Ok s.motions
  pub off : list_or (codes "off") 0 MAX_OFF (spot names.Off 0 0) off_of d ≡ Ok s.off
  pub clumps : clumps_at (is_later d) s.templates d ≡ Ok s.clumps
  pub nx : unsigned_abs size.x ≡ s.nx
  pub ny : unsigned_abs size.y ≡ s.ny
  pub nz : unsigned_abs size.z ≡ s.nz

-- a table that was read has its parts
pub parts_of : (d : Data) (s : SceneValue) → table_of d ≡ Ok s → HasParts d s
unfolding table_of
parts_of d s e =
    let known = then_ok (check_object_in (is_later d) (spot names.Scene 0 0) d) _ s e in
    let version = then_ok (check_version d) _ s known.2 in
    let size = then_ok (vector_at (codes "box") (from_to 1 MAX_VOXELS) (spot names.Box 0 0) d) _ s version.2 in
    let steps = then_ok (number_at (codes "steps") 0 MAX_STEPS (spot names.Steps 0 0) d) _ s size.2 in
    let every = then_ok (number_at (codes "every") 1 MAX_STEPS (spot names.Every 0 0) d) _ s steps.2 in
    let speed = then_ok (number_at (codes "speed") 1 MAX_SPEED (spot names.Speed 0 0) d) _ s every.2 in
    let spin = then_ok (number_at (codes "spin") 1 MAX_SPIN (spot names.Spin 0 0) d) _ s speed.2 in
    let gravity = then_ok (vector_or (codes "gravity") (at_most MAX_GRAVITY) (spot names.Gravity 0 0) d) _ s spin.2 in
    let materials = then_ok (list_at (codes "materials") 1 MAX_MATERIALS (spot names.Materials 0 0) material_of d) _ s gravity.2 in
    let templates = then_ok (list_at (codes "templates") 1 MAX_TEMPLATES (spot names.Templates 0 0) (template_of (length materials.0)) d) _ s materials.2 in
    let walls = then_ok (list_or (codes "walls") 0 MAX_WALLS (spot names.Walls 0 0) (wall_of (length materials.0) (greatest_radius templates.0)) d) _ s templates.2 in
    let motions = then_ok (motions_or d) _ s walls.2 in
    let off = then_ok (list_or (codes "off") 0 MAX_OFF (spot names.Off 0 0) off_of d) _ s motions.2 in
    let clumps = then_ok (clumps_at (is_later d) templates.0 d) _ s off.2 in
    let made : SceneValue = record {
      nx = unsigned_abs size.0.x;
      ny = unsigned_abs size.0.y;
      nz = unsigned_abs size.0.z;
      steps = steps.0;
      every = every.0;
      speed = speed.0;
      spin = spin.0;
      gravity = gravity.0;
      materials = materials.0;
      templates = templates.0;
      walls = walls.0;
      clumps = clumps.0;
      motions = motions.0;
      off = off.0;
    } in
    let same : made ≡ s = ok_same made s clumps.2 in
    let parts : HasParts d made = record {
      known = known.1;
      version = version.1;
      size = size.0;
      box = size.1;
      steps = steps.1;
      every = every.1;
      speed = speed.1;
      spin = spin.1;
      gravity = gravity.1;
      materials = materials.1;
      templates = templates.1;
      walls = walls.1;
      motions = motions.1;
      off = off.1;
      clumps = clumps.1;
      nx = refl;
      ny = refl;
      nz = refl;
    } in
    subst (HasParts d) same parts

-- a step whose value is known, and then the next
pub then_gives : {A B : Type 0} (r : Result A SceneFault) (f : A → Result B SceneFault) (x : A) (y : B) → r ≡ Ok x → f x ≡ Ok y → (r >>= f) ≡ Ok y
then_gives r f x y e g = ap (λ q. q >>= f) e ∙ g

-- the parts make the table
pub table_from : (d : Data) (s : SceneValue) → HasParts d s → table_of d ≡ Ok s
unfolding table_of
table_from d s p =
    then_gives (check_object_in (is_later d) (spot names.Scene 0 0) d) _ tt s p.known (
    then_gives (check_version d) _ tt s p.version (
    then_gives (vector_at (codes "box") (from_to 1 MAX_VOXELS) (spot names.Box 0 0) d) _ p.size s p.box (
    then_gives (number_at (codes "steps") 0 MAX_STEPS (spot names.Steps 0 0) d) _ s.steps s p.steps (
    then_gives (number_at (codes "every") 1 MAX_STEPS (spot names.Every 0 0) d) _ s.every s p.every (
    then_gives (number_at (codes "speed") 1 MAX_SPEED (spot names.Speed 0 0) d) _ s.speed s p.speed (
    then_gives (number_at (codes "spin") 1 MAX_SPIN (spot names.Spin 0 0) d) _ s.spin s p.spin (
    then_gives (vector_or (codes "gravity") (at_most MAX_GRAVITY) (spot names.Gravity 0 0) d) _ s.gravity s p.gravity (
    then_gives (list_at (codes "materials") 1 MAX_MATERIALS (spot names.Materials 0 0) material_of d) _ s.materials s p.materials (
    then_gives (list_at (codes "templates") 1 MAX_TEMPLATES (spot names.Templates 0 0) (template_of (length s.materials)) d) _ s.templates s p.templates (
    then_gives (list_or (codes "walls") 0 MAX_WALLS (spot names.Walls 0 0) (wall_of (length s.materials) (greatest_radius s.templates)) d) _ s.walls s p.walls (
    then_gives (motions_or d) _ s.motions s p.motions (
    then_gives (list_or (codes "off") 0 MAX_OFF (spot names.Off 0 0) off_of d) _ s.off s p.off (
    then_gives (clumps_at (is_later d) s.templates d) _ s.clumps s p.clumps (
    rw (p.nx, p.ny, p.nz) refl))))))))))))))

-- ---- sizes

passes_under : (test : ℤ → Bool) (at : Spot) (o : Option Data) (v : Vec3) → PassesSmall test → required at (vector_of test at) o ≡ Ok v → (test v.x ≡ true) × (test v.y ≡ true) × (test v.z ≡ true)
passes_under test at None v small e = absurd cc
passes_under test at (Some d) v small e = let p = vector_fits test at d v small e in (p.1, p.2, p.3)

-- the components of a vector that was read pass the test
pub vector_passes : (name : List ℕ) (test : ℤ → Bool) (at : Spot) (d : Data) (v : Vec3) → PassesSmall test → vector_at name test at d ≡ Ok v → (test v.x ≡ true) × (test v.y ≡ true) × (test v.z ≡ true)
unfolding vector_at
vector_passes name test at d v small e = passes_under test at (get name d) v small e

each_count : {A : Type 0} (read : ℕ → Data → Result A SceneFault) (i : ℕ) (ds : Items) (xs : List A) → each_from read i ds ≡ Ok xs → length xs ≡ count_of ds
unfolding each_from
each_count read i no_items xs e = let same : [] ≡ xs = cc in ap length (sym same)
each_count read i (item d ds) xs e =
    let a = then_ok (read i d) (λ x. each_from read (i + 1) ds >>= λ ys. Ok (x ∷ ys)) xs e in
    let b = then_ok (each_from read (i + 1) ds) (λ ys. Ok (a.0 ∷ ys)) xs a.2 in
    let same : a.0 ∷ b.0 ≡ xs = cc in
    let more = each_count read (i + 1) ds b.0 b.1 in
    ap length (sym same) ∙ omega (arith, more)

list_count : {A : Type 0} (low high : ℕ) (at : Spot) (read : ℕ → Data → Result A SceneFault) (d : Data) (xs : List A) → list_of low high at read d ≡ Ok xs → length xs ≤ high
unfolding list_of
list_count low high at read null xs e = absurd cc
list_count low high at read (boolean b) xs e = absurd cc
list_count low high at read (number x) xs e = absurd cc
list_count low high at read (string s) xs e = absurd cc
list_count low high at read (array ds) xs e =
    let a = then_ok (if_so (Count at) (nat_le low (count_of ds) && nat_le (count_of ds) high) ds) (each_from read 0) xs e in
    let b = so_ok (Count at) (nat_le low (count_of ds) && nat_le (count_of ds) high) ds a.0 a.1 in
    let p = and_parts (nat_le low (count_of ds)) (nat_le (count_of ds) high) b.0 in
    let few : nat_le (count_of ds) high ≡ true = p.1 in
    let le : count_of ds ≤ high = grind (arith, nat_tests) in
    omega (arith, each_count read 0 ds xs (ap (each_from read 0) b.1 ∙ a.2), le)
list_count low high at read (object ms) xs e = absurd cc

count_under : {A : Type 0} (low high : ℕ) (at : Spot) (read : ℕ → Data → Result A SceneFault) (o : Option Data) (xs : List A) → required at (list_of low high at read) o ≡ Ok xs → length xs ≤ high
count_under low high at read None xs e = absurd cc
count_under low high at read (Some d) xs e = list_count low high at read d xs e

-- a list that was read has at most so many elements
pub list_at_count : {A : Type 0} (name : List ℕ) (low high : ℕ) (at : Spot) (read : ℕ → Data → Result A SceneFault) (d : Data) (xs : List A) → list_at name low high at read d ≡ Ok xs → length xs ≤ high
unfolding list_at
list_at_count name low high at read d xs e = count_under low high at read (get name d) xs e
