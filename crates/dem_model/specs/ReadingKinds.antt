-- Reading each kind of object of a scene text: the object, or its first fault with its place.
use Rattle.std.specs.Prelude.{ℕ, unsigned_abs, ◌+◌, ◌-◌, max, fold, nat_le, if◌then◌else◌, List, [], ◌∷◌, length, codes, ℤ, Bool, ◌&&◌, Option, Some, None, option_and_then, Result, Ok, Err, ok_or, ⊤}
use Rattle.std.specs.Str.{bytes_eq}
use Rattle.serde_json.specs.Data.{Data, Items, no_items, item}
use Rattle.serde_json.specs.Find.{get, as_array, as_str}
use Rattle.dem_model.specs.declared.fault.Spot.{Spot}
use Rattle.dem_model.specs.declared.fault.Name.TheVariants as names
use Rattle.dem_model.specs.declared.fault.SceneFault.{SceneFault}
use Rattle.dem_model.specs.declared.fault.SceneFault.TheVariants.{Field, Range, Count}
use Rattle.dem_model.specs.declared.shape.Material.{Material}
use Rattle.dem_model.specs.declared.shape.Ball.{Ball}
use Rattle.dem_model.specs.declared.shape.Template.{Template}
use Rattle.dem_model.specs.declared.shape.Axis.{Axis}
use Rattle.dem_model.specs.declared.shape.Axis.TheVariants.{X, Y, Z}
use Rattle.dem_model.specs.declared.shape.Form.{Form}
use Rattle.dem_model.specs.declared.shape.Form.TheVariants.{Plane, Cylinder}
use Rattle.dem_model.specs.declared.shape.Wall.{Wall}
use Rattle.dem_model.specs.declared.state.Clump.{Clump}
use Rattle.dem_model.specs.declared.family.Motion.{Motion}
use Rattle.dem_model.specs.declared.family.Off.{Off}
use Rattle.dem_model.specs.declared.limits.TheConstants.{MAX_STIFFNESS, MAX_RATIO, MAX_MASS, MAX_MOMENT, MAX_BALLS, MAX_OFFSET, MAX_RADIUS, MAX_POINT, MAX_CYLINDER, MAX_SPEED, MAX_SPIN, MAX_SPHERES, MAX_FAMILY}
use Rattle.dem_model.specs.Spheres.{balls_of}
use Rattle.dem_model.specs.Reading.{◌>>=◌, spot, unless, required, if_so, whole, from_to, at_most, check_object, check_object_in, number_at, number_or, index_at, list_at}
use Rattle.dem_model.specs.ReadingVectors.{vector_at, vector_or, direction_at, quaternion_or}

-- ---- materials

-- a material
unfoldable pub material_of : ℕ → Data → Result Material SceneFault
material_of i d = do
  _ ← check_object (spot names.Materials i 0) d
  kn ← number_at (codes "kn") 1 MAX_STIFFNESS (spot names.MaterialsKn i 0) d
  kt ← number_or (codes "kt") 0 MAX_STIFFNESS (spot names.MaterialsKt i 0) d
  bn ← number_or (codes "bn") 0 MAX_RATIO (spot names.MaterialsBn i 0) d
  bt ← number_or (codes "bt") 0 MAX_RATIO (spot names.MaterialsBt i 0) d
  mu ← number_or (codes "mu") 0 MAX_RATIO (spot names.MaterialsMu i 0) d
  mr ← number_or (codes "mr") 0 MAX_RATIO (spot names.MaterialsMr i 0) d
  Ok (record { kn = kn; kt = kt; bn = bn; bt = bt; mu = mu; mr = mr })

-- ---- templates

-- a sphere of the template i
unfoldable pub sphere_of : ℕ → ℕ → ℕ → Data → Result Ball SceneFault
sphere_of materials i j d = do
  _ ← check_object (spot names.TemplatesSpheres i j) d
  at ← vector_at (codes "at") (at_most MAX_OFFSET) (spot names.TemplatesSpheresAt i j) d
  r ← number_at (codes "r") 1 MAX_RADIUS (spot names.TemplatesSpheresR i j) d
  mat ← index_at (codes "mat") materials (spot names.TemplatesSpheresMat i j) d
  Ok (record { at = at; r = r; mat = mat })

-- a template
unfoldable pub template_of : ℕ → ℕ → Data → Result Template SceneFault
template_of materials i d = do
  _ ← check_object (spot names.Templates i 0) d
  mass ← number_at (codes "mass") 1 MAX_MASS (spot names.TemplatesMass i 0) d
  moments ← vector_at (codes "moments") (from_to 1 MAX_MOMENT) (spot names.TemplatesMoments i 0) d
  balls ← list_at (codes "spheres") 1 MAX_BALLS (spot names.TemplatesSpheres i 0) (sphere_of materials i) d
  Ok (record { mass = mass; moments = moments; balls = balls })

-- the greatest of a radius and the radii of some spheres
unfoldable pub widest_of : ℕ → List Ball → ℕ
widest_of r balls = fold (λ m (b : Ball). max m b.r) r balls

-- the greatest sphere radius of the templates
unfoldable pub greatest_radius : List Template → ℕ
greatest_radius templates = fold (λ m (t : Template). widest_of m t.balls) 0 templates

-- ---- walls

-- a plane
unfoldable pub plane_of : ℕ → Data → Result Form SceneFault
plane_of i d = do
  _ ← check_object (spot names.WallsPlane i 0) d
  at ← vector_at (codes "at") (from_to 0 MAX_POINT) (spot names.WallsPlaneAt i 0) d
  dir ← direction_at (codes "dir") (spot names.WallsPlaneDir i 0) d
  Ok (Plane at dir)

-- the axis that a text names
abbrev pub axis_named : Spot → Option (List ℕ) → Result Axis SceneFault
axis_named at None = Err (Field at)
axis_named at (Some text) = if bytes_eq text (codes "x") then Ok X else (if bytes_eq text (codes "y") then Ok Y else (if bytes_eq text (codes "z") then Ok Z else Err (Field at)))

-- an axis under its name
unfoldable pub axis_at : List ℕ → Spot → Data → Result Axis SceneFault
axis_at name at d = required at (λ v. axis_named at (as_str v)) (get name d)

-- a cylinder, which is wider than the greatest sphere of the templates
unfoldable pub cylinder_of : ℕ → ℕ → Data → Result Form SceneFault
cylinder_of widest i d = do
  _ ← check_object (spot names.WallsCylinder i 0) d
  axis ← axis_at (codes "axis") (spot names.WallsCylinderAxis i 0) d
  at ← vector_at (codes "at") (from_to 0 MAX_POINT) (spot names.WallsCylinderAt i 0) d
  r ← number_at (codes "r") (widest + 1) MAX_CYLINDER (spot names.WallsCylinderR i 0) d
  Ok (Cylinder axis at r)

-- the form of a wall: exactly one of a plane and a cylinder
abbrev pub one_form : ℕ → ℕ → Option Data → Option Data → Result Form SceneFault
one_form widest i (Some plane) None = plane_of i plane
one_form widest i None (Some cylinder) = cylinder_of widest i cylinder
one_form widest i _ _ = Err (Field (spot names.WallsForm i 0))

-- the form of a wall, under its name
unfoldable pub form_at : ℕ → ℕ → Data → Result Form SceneFault
form_at widest i d = one_form widest i (get (codes "plane") d) (get (codes "cylinder") d)

-- a wall
unfoldable pub wall_of : ℕ → ℕ → ℕ → Data → Result Wall SceneFault
wall_of materials widest i d = do
  _ ← check_object (spot names.Walls i 0) d
  form ← form_at widest i d
  mat ← index_at (codes "mat") materials (spot names.WallsMat i 0) d
  Ok (record { form = form; mat = mat })

-- ---- families

-- a motion, of a family from a least one on
unfoldable pub motion_of : ℕ → ℕ → Data → Result Motion SceneFault
motion_of least i d = do
  _ ← check_object (spot names.Families i 0) d
  id ← number_at (codes "id") least MAX_FAMILY (spot names.FamiliesId i 0) d
  v ← vector_at (codes "v") (at_most MAX_SPEED) (spot names.FamiliesV i 0) d
  w ← vector_at (codes "w") (at_most MAX_SPIN) (spot names.FamiliesW i 0) d
  Ok (record { id = id; v = v; w = w })

-- the motions from number i on, of families from a least one on, in ascending order
unfoldable pub motions_from : ℕ → ℕ → Items → Result (List Motion) SceneFault
motions_from least i no_items = Ok []
motions_from least i (item d ds) = do
  m ← motion_of least i d
  ms ← motions_from (m.id + 1) (i + 1) ds
  Ok (m ∷ ms)

-- two numbers, where each is one
abbrev pub pair_of_two : Option ℤ → Option ℤ → Option (ℤ × ℤ)
pair_of_two (Some f) (Some g) = Some (f, g)
pair_of_two _ _ = None

-- the two numbers that a list is: exactly two whole numbers
abbrev pub two_of : Items → Option (ℤ × ℤ)
two_of (item f (item g no_items)) = pair_of_two (whole f) (whole g)
two_of _ = None

-- whether both numbers are those of families
abbrev pub are_families : ℤ × ℤ → Bool
are_families x = from_to 0 MAX_FAMILY x.0 && from_to 0 MAX_FAMILY x.1

-- two numbers in a list, whatever their size
unfoldable pub two_at : Spot → Data → Result (ℤ × ℤ) SceneFault
two_at at d = ok_or (option_and_then two_of (as_array d)) (Field at)

-- two families that are off
unfoldable pub off_of : ℕ → Data → Result Off SceneFault
off_of i d = do
  x ← two_at (spot names.Off i 0) d
  if_so (Range (spot names.Off i 0)) (are_families x) (record { f = unsigned_abs x.0; g = unsigned_abs x.1 })

-- ---- clumps

-- the number of spheres of a template
unfoldable pub ball_count : List Template → ℕ → ℕ
ball_count templates t = length (balls_of templates t)

-- no more spheres than a scene may have
unfoldable pub check_total : ℕ → Spot → Result ⊤ SceneFault
check_total spheres at = unless (Count at) (nat_le spheres MAX_SPHERES)

-- a clump, after so many spheres of the clumps before it; version 2 may name its family
unfoldable pub clump_of : Bool → List Template → ℕ → ℕ → Data → Result Clump SceneFault
clump_of later templates before i d = do
  _ ← check_object_in later (spot names.Clumps i 0) d
  t ← index_at (codes "t") (length templates) (spot names.ClumpsT i 0) d
  family ← number_or (codes "family") 0 MAX_FAMILY (spot names.ClumpsFamily i 0) d
  p ← vector_at (codes "p") (from_to 0 (MAX_POINT - 1)) (spot names.ClumpsP i 0) d
  v ← vector_or (codes "v") (at_most MAX_SPEED) (spot names.ClumpsV i 0) d
  q ← quaternion_or (codes "q") (spot names.ClumpsQ i 0) d
  w ← vector_or (codes "w") (at_most MAX_SPIN) (spot names.ClumpsW i 0) d
  _ ← check_total (before + ball_count templates t) (spot names.ClumpsTotal i 0)
  Ok (record { t = t; family = family; body = record { p = p; q = q; v = v; w = w } })

-- the clumps from number i on, after so many spheres of the clumps before them
unfoldable pub clumps_from : Bool → List Template → ℕ → ℕ → Items → Result (List Clump) SceneFault
clumps_from later templates before i no_items = Ok []
clumps_from later templates before i (item d ds) = do
  c ← clump_of later templates before i d
  cs ← clumps_from later templates (before + ball_count templates c.t) (i + 1) ds
  Ok (c ∷ cs)
