-- The names of the scene text: those of each kind of object, and how each place is written.
use Rattle.std.specs.Prelude.{ℕ, List, [], ◌∷◌, codes}
use Rattle.dem_model.specs.declared.fault.Name.{Name}
use Rattle.dem_model.specs.declared.fault.Name.TheVariants as names

-- the names of the scene object in both versions
abbrev pub scene_names : List (List ℕ)
scene_names = codes "version" ∷ codes "box" ∷ codes "steps" ∷ codes "every" ∷ codes "speed" ∷ codes "spin" ∷ codes "gravity" ∷ codes "materials" ∷ codes "templates" ∷ codes "walls" ∷ codes "clumps" ∷ []

-- the names of a material
abbrev pub material_names : List (List ℕ)
material_names = codes "kn" ∷ codes "kt" ∷ codes "bn" ∷ codes "bt" ∷ codes "mu" ∷ codes "mr" ∷ []

-- the names of a template
abbrev pub template_names : List (List ℕ)
template_names = codes "mass" ∷ codes "moments" ∷ codes "spheres" ∷ []

-- the names of a sphere
abbrev pub sphere_names : List (List ℕ)
sphere_names = codes "at" ∷ codes "r" ∷ codes "mat" ∷ []

-- the names of a wall
abbrev pub wall_names : List (List ℕ)
wall_names = codes "plane" ∷ codes "cylinder" ∷ codes "mat" ∷ []

-- the names of a plane
abbrev pub plane_names : List (List ℕ)
plane_names = codes "at" ∷ codes "dir" ∷ []

-- the names of a cylinder
abbrev pub cylinder_names : List (List ℕ)
cylinder_names = codes "axis" ∷ codes "at" ∷ codes "r" ∷ []

-- the names of a motion
abbrev pub motion_names : List (List ℕ)
motion_names = codes "id" ∷ codes "v" ∷ codes "w" ∷ []

-- the names of a clump in both versions
abbrev pub clump_names : List (List ℕ)
clump_names = codes "t" ∷ codes "p" ∷ codes "v" ∷ codes "q" ∷ codes "w" ∷ []

-- the names that the object at a place may have in both versions; a place that is no object has none
unfoldable pub names_of : Name → List (List ℕ)
names_of names.Scene = scene_names
names_of names.Materials = material_names
names_of names.Templates = template_names
names_of names.TemplatesSpheres = sphere_names
names_of names.Walls = wall_names
names_of names.WallsPlane = plane_names
names_of names.WallsCylinder = cylinder_names
names_of names.Families = motion_names
names_of names.Clumps = clump_names
names_of names.Version = []
names_of names.Box = []
names_of names.Steps = []
names_of names.Every = []
names_of names.Speed = []
names_of names.Spin = []
names_of names.Gravity = []
names_of names.MaterialsKn = []
names_of names.MaterialsKt = []
names_of names.MaterialsBn = []
names_of names.MaterialsBt = []
names_of names.MaterialsMu = []
names_of names.MaterialsMr = []
names_of names.TemplatesMass = []
names_of names.TemplatesMoments = []
names_of names.TemplatesSpheresAt = []
names_of names.TemplatesSpheresR = []
names_of names.TemplatesSpheresMat = []
names_of names.WallsForm = []
names_of names.WallsPlaneAt = []
names_of names.WallsPlaneDir = []
names_of names.WallsCylinderAxis = []
names_of names.WallsCylinderAt = []
names_of names.WallsCylinderR = []
names_of names.WallsMat = []
names_of names.FamiliesId = []
names_of names.FamiliesV = []
names_of names.FamiliesW = []
names_of names.Off = []
names_of names.ClumpsT = []
names_of names.ClumpsFamily = []
names_of names.ClumpsP = []
names_of names.ClumpsV = []
names_of names.ClumpsQ = []
names_of names.ClumpsW = []
names_of names.ClumpsTotal = []

-- the names that the object at a place may have in version 2 alone
unfoldable pub later_names_of : Name → List (List ℕ)
later_names_of names.Scene = codes "families" ∷ codes "off" ∷ []
later_names_of names.Clumps = codes "family" ∷ []
later_names_of _ = []

-- a name as the messages write it
unfoldable pub name_text : Name → List ℕ
name_text names.Scene = codes "scene"
name_text names.Version = codes "version"
name_text names.Box = codes "box"
name_text names.Steps = codes "steps"
name_text names.Every = codes "every"
name_text names.Speed = codes "speed"
name_text names.Spin = codes "spin"
name_text names.Gravity = codes "gravity"
name_text names.Materials = codes "materials"
name_text names.MaterialsKn = codes "materials.kn"
name_text names.MaterialsKt = codes "materials.kt"
name_text names.MaterialsBn = codes "materials.bn"
name_text names.MaterialsBt = codes "materials.bt"
name_text names.MaterialsMu = codes "materials.mu"
name_text names.MaterialsMr = codes "materials.mr"
name_text names.Templates = codes "templates"
name_text names.TemplatesMass = codes "templates.mass"
name_text names.TemplatesMoments = codes "templates.moments"
name_text names.TemplatesSpheres = codes "templates.spheres"
name_text names.TemplatesSpheresAt = codes "templates.spheres.at"
name_text names.TemplatesSpheresR = codes "templates.spheres.r"
name_text names.TemplatesSpheresMat = codes "templates.spheres.mat"
name_text names.Walls = codes "walls"
name_text names.WallsForm = codes "walls.form"
name_text names.WallsPlane = codes "walls.plane"
name_text names.WallsPlaneAt = codes "walls.plane.at"
name_text names.WallsPlaneDir = codes "walls.plane.dir"
name_text names.WallsCylinder = codes "walls.cylinder"
name_text names.WallsCylinderAxis = codes "walls.cylinder.axis"
name_text names.WallsCylinderAt = codes "walls.cylinder.at"
name_text names.WallsCylinderR = codes "walls.cylinder.r"
name_text names.WallsMat = codes "walls.mat"
name_text names.Families = codes "families"
name_text names.FamiliesId = codes "families.id"
name_text names.FamiliesV = codes "families.v"
name_text names.FamiliesW = codes "families.w"
name_text names.Off = codes "off"
name_text names.Clumps = codes "clumps"
name_text names.ClumpsT = codes "clumps.t"
name_text names.ClumpsFamily = codes "clumps.family"
name_text names.ClumpsP = codes "clumps.p"
name_text names.ClumpsV = codes "clumps.v"
name_text names.ClumpsQ = codes "clumps.q"
name_text names.ClumpsW = codes "clumps.w"
name_text names.ClumpsTotal = codes "clumps.total"
