-- Reading a whole scene text: the table from top to bottom, then each clump's limits and its place in the box.
use Rattle.std.specs.Prelude.{ℕ, ◌+◌, ◌==◌, ℤ, pos, negsuc, unsigned_abs, Bool, false, ◌&&◌, ◌||◌, nat_lt, if◌then◌else◌, List, [], ◌∷◌, length, codes, Option, Some, None, option_and_then, Result, Ok, Err, ⊤}
use Rattle.std.specs.List.{list_all}
use Rattle.std.specs.Str.{is_utf8}
use Rattle.serde_json.specs.Data.{Data}
use Rattle.serde_json.specs.Read.{read}
use Rattle.serde_json.specs.Find.{get, as_array}
use Rattle.dem_num.specs.Vectors.{widened}
use Rattle.dem_model.specs.declared.fault.Spot.{Spot}
use Rattle.dem_model.specs.declared.fault.Name.TheVariants as names
use Rattle.dem_model.specs.declared.fault.SceneFault.{SceneFault}
use Rattle.dem_model.specs.declared.fault.SceneFault.TheVariants.{TooLong, NotJson, Version, OverLimit, OutsideBox}
use Rattle.dem_model.specs.declared.shape.Ball.{Ball}
use Rattle.dem_model.specs.declared.shape.Template.{Template}
use Rattle.dem_model.specs.declared.state.Body.{Body}
use Rattle.dem_model.specs.declared.state.Clump.{Clump}
use Rattle.dem_model.specs.declared.family.Motion.{Motion}
use Rattle.dem_model.specs.declared.limits.TheConstants.{MAX_TEXT, MAX_VOXELS, MAX_STEPS, MAX_SPEED, MAX_SPIN, MAX_GRAVITY, MAX_MATERIALS, MAX_TEMPLATES, MAX_WALLS, MAX_CLUMPS, MAX_MOTIONS, MAX_OFF}
use Rattle.dem_model.specs.SceneValue.{SceneValue}
use Rattle.dem_model.specs.Position.{in_box}
use Rattle.dem_model.specs.Spheres.{balls_of, center_of}
use Rattle.dem_model.specs.Reading.{◌>>=◌, spot, unless, required, optional, from_to, at_most, whole, whole_of, check_object_in, number_at, counted, list_at, list_or}
use Rattle.dem_model.specs.ReadingVectors.{each_is, vector_at, vector_or}
use Rattle.dem_model.specs.ReadingKinds.{material_of, template_of, greatest_radius, wall_of, motions_from, off_of, clumps_from}

-- ---- the table

-- whether a number is that of a version
abbrev pub is_version : ℕ → ℤ → Bool
is_version v (pos n) = n == v
is_version v (negsuc n) = false

-- whether a number, if there is one, is that of version 2
abbrev pub is_two : Option ℤ → Bool
is_two None = false
is_two (Some z) = is_version 2 z

-- whether a scene is one of version 2
unfoldable pub is_later : Data → Bool
is_later d = is_two (option_and_then whole (get (codes "version") d))

-- the version: a whole number, and no other than 1 and 2
unfoldable pub version_of : Spot → Data → Result ⊤ SceneFault
version_of at d = do
  z ← whole_of at d
  unless Version (is_version 1 z || is_version 2 z)

-- the version, under its name
unfoldable pub check_version : Data → Result ⊤ SceneFault
check_version d = required (spot names.Version 0 0) (version_of (spot names.Version 0 0)) (get (codes "version") d)

-- the motions: a list, read one after the other
unfoldable pub motions_of : Spot → Data → Result (List Motion) SceneFault
motions_of at d = do
  ds ← counted 0 MAX_MOTIONS at (as_array d)
  motions_from 0 0 ds

-- the motions, under their name, or none
unfoldable pub motions_or : Data → Result (List Motion) SceneFault
motions_or d = optional [] (motions_of (spot names.Families 0 0)) (get (codes "families") d)

-- the clumps: a list, read one after the other
unfoldable pub clumps_of : Bool → List Template → Spot → Data → Result (List Clump) SceneFault
clumps_of later templates at d = do
  ds ← counted 1 MAX_CLUMPS at (as_array d)
  clumps_from later templates 0 0 ds

-- the clumps, under their name
unfoldable pub clumps_at : Bool → List Template → Data → Result (List Clump) SceneFault
clumps_at later templates d = required (spot names.Clumps 0 0) (clumps_of later templates (spot names.Clumps 0 0)) (get (codes "clumps") d)

-- the scene that the table gives, whatever the speeds and the places of its clumps
unfoldable pub table_of : Data → Result SceneValue SceneFault
table_of d = do
  _ ← check_object_in (is_later d) (spot names.Scene 0 0) d
  _ ← check_version d
  size ← vector_at (codes "box") (from_to 1 MAX_VOXELS) (spot names.Box 0 0) d
  steps ← number_at (codes "steps") 0 MAX_STEPS (spot names.Steps 0 0) d
  every ← number_at (codes "every") 1 MAX_STEPS (spot names.Every 0 0) d
  speed ← number_at (codes "speed") 1 MAX_SPEED (spot names.Speed 0 0) d
  spin ← number_at (codes "spin") 1 MAX_SPIN (spot names.Spin 0 0) d
  gravity ← vector_or (codes "gravity") (at_most MAX_GRAVITY) (spot names.Gravity 0 0) d
  materials ← list_at (codes "materials") 1 MAX_MATERIALS (spot names.Materials 0 0) material_of d
  templates ← list_at (codes "templates") 1 MAX_TEMPLATES (spot names.Templates 0 0) (template_of (length materials)) d
  walls ← list_or (codes "walls") 0 MAX_WALLS (spot names.Walls 0 0) (wall_of (length materials) (greatest_radius templates)) d
  motions ← motions_or d
  off ← list_or (codes "off") 0 MAX_OFF (spot names.Off 0 0) off_of d
  clumps ← clumps_at (is_later d) templates d
  Ok (record {
    nx = unsigned_abs size.x;
    ny = unsigned_abs size.y;
    nz = unsigned_abs size.z;
    steps = steps;
    every = every;
    speed = speed;
    spin = spin;
    gravity = gravity;
    materials = materials;
    templates = templates;
    walls = walls;
    clumps = clumps;
    motions = motions;
    off = off;
  })

-- ---- after the table

-- whether a body is within the limits of the scene
unfoldable pub in_limits : SceneValue → Body → Bool
in_limits s b = each_is (at_most s.speed) b.v && each_is (at_most s.spin) b.w

-- whether the center of each sphere lies in the box
unfoldable pub centers_inside : SceneValue → Body → List Ball → Bool
centers_inside s b balls = list_all (λ ball. in_box s (center_of b ball)) balls

-- whether a body and the center of each sphere lie in the box
unfoldable pub is_inside : SceneValue → Body → List Ball → Bool
is_inside s b balls = in_box s (widened b.p) && centers_inside s b balls

-- a clump that is within the limits, and then inside the box
unfoldable pub check_clump : SceneValue → ℕ → Clump → Result ⊤ SceneFault
check_clump s i c = do
  _ ← unless (OverLimit i) (in_limits s c.body)
  unless (OutsideBox i) (is_inside s c.body (balls_of s.templates c.t))

-- the clumps from number i on, one after the other
unfoldable pub check_clumps : SceneValue → ℕ → List Clump → Result ⊤ SceneFault
check_clumps s i [] = Ok tt
check_clumps s i (c ∷ cs) = do
  _ ← check_clump s i c
  check_clumps s (i + 1) cs

-- ---- the whole

-- the scene that a value tree is
unfoldable pub scene_of : Data → Result SceneValue SceneFault
scene_of d = do
  s ← table_of d
  _ ← check_clumps s 0 s.clumps
  Ok s

-- the value tree of a text, if it has one
abbrev pub tree_of : Option Data → Result Data SceneFault
tree_of None = Err NotJson
tree_of (Some d) = Ok d

-- the value tree of some bytes: a text, and JSON
unfoldable pub json_of : List ℕ → Result Data SceneFault
json_of bytes = if is_utf8 bytes then tree_of (read bytes) else Err NotJson

-- the scene that some bytes are, or the first fault: the length, then JSON, then the table, then the clumps
unfoldable pub scene_from : List ℕ → Result SceneValue SceneFault
scene_from bytes = if nat_lt MAX_TEXT (length bytes) then Err TooLong else (json_of bytes >>= scene_of)
