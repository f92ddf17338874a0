-- What each scene keeps: every range, index and count, no clump over a limit, none outside the box.
use Rattle.std.specs.Prelude.{ℕ, ℤ, pos, ◌+◌, ◌<◌, ◌≤◌, ◌≡◌, ◌≤ℤ◌, false, List, [], ◌∷◌, length, All, IsTrue}
use Rattle.dem_num.specs.declared.vector.Vec3.{Vec3}
use Rattle.dem_num.specs.Vectors.{widened, Within, is_zero}
use Rattle.dem_num.specs.Rotations.{quat_norm2_of}
use Rattle.dem_model.specs.SceneValue.{SceneValue}
use Rattle.dem_model.specs.Position.{in_box}
use Rattle.dem_model.specs.Spheres.{balls_of, spheres_of, center_of}
use Rattle.dem_model.specs.declared.shape.Material.{Material}
use Rattle.dem_model.specs.declared.shape.Ball.{Ball}
use Rattle.dem_model.specs.declared.shape.Template.{Template}
use Rattle.dem_model.specs.declared.shape.Form.{Form}
use Rattle.dem_model.specs.declared.shape.Form.TheVariants.{Plane, Cylinder}
use Rattle.dem_model.specs.declared.shape.Wall.{Wall}
use Rattle.dem_model.specs.declared.state.Body.{Body}
use Rattle.dem_model.specs.declared.state.Clump.{Clump}
use Rattle.dem_model.specs.declared.family.Motion.{Motion}
use Rattle.dem_model.specs.declared.family.Off.{Off}
use Rattle.dem_model.specs.declared.limits.TheConstants.{MAX_VOXELS, MAX_STEPS, MAX_SPEED, MAX_SPIN, MAX_GRAVITY, MAX_MATERIALS, MAX_STIFFNESS, MAX_RATIO, MAX_TEMPLATES, MAX_MASS, MAX_MOMENT, MAX_BALLS, MAX_OFFSET, MAX_RADIUS, MAX_WALLS, MAX_POINT, MAX_DIRECTION, MAX_CYLINDER, MAX_CLUMPS, MAX_SPHERES, MIN_NORM2, MAX_NORM2, MAX_FAMILY, MAX_MOTIONS, MAX_OFF}

-- the number is from low to high
pub record IsFrom (low high n : ℕ) : Type 0 where
  pub low_le : low ≤ n
  pub le_high : n ≤ high

-- the number is from low to high, where numbers may be negative
pub record IsBetween (low high z : ℤ) : Type 0 where
  pub low_le : low ≤ℤ z
  pub le_high : z ≤ℤ high

-- each component is from low to high
pub record EachBetween (low high : ℤ) (v : Vec3) : Type 0 where
  pub x : IsBetween low high v.x
  pub y : IsBetween low high v.y
  pub z : IsBetween low high v.z

-- stiffness, damping, friction and rolling resistance are within their ranges
pub record IsMaterial (m : Material) : Type 0 where
  pub kn : IsFrom 1 MAX_STIFFNESS m.kn
  pub kt : m.kt ≤ MAX_STIFFNESS
  pub bn : m.bn ≤ MAX_RATIO
  pub bt : m.bt ≤ MAX_RATIO
  pub mu : m.mu ≤ MAX_RATIO
  pub mr : m.mr ≤ MAX_RATIO

-- a sphere is within its ranges, and its material is there
pub record IsBall (materials : ℕ) (b : Ball) : Type 0 where
  pub at : Within (widened b.at) MAX_OFFSET
  pub r : IsFrom 1 MAX_RADIUS b.r
  pub mat : b.mat < materials

-- a template is within its ranges, and so are its spheres
pub record IsTemplate (materials : ℕ) (t : Template) : Type 0 where
  pub mass : IsFrom 1 MAX_MASS t.mass
  pub moments : EachBetween (pos 1) (pos MAX_MOMENT) t.moments
  pub count : IsFrom 1 MAX_BALLS (length t.balls)
  pub balls : All (IsBall materials) t.balls

-- a plane has a direction; a cylinder is wider than each sphere of the templates
abbrev pub IsForm : (templates : List Template) → Form → Type 0
IsForm templates (Plane at dir) = EachBetween (pos 0) (pos MAX_POINT) at × Within (widened dir) MAX_DIRECTION × (is_zero (widened dir) ≡ false)
IsForm templates (Cylinder axis at r) = EachBetween (pos 0) (pos MAX_POINT) at × IsFrom 1 MAX_CYLINDER r × All (λ (t : Template). All (λ (b : Ball). b.r < r) t.balls) templates

-- a wall has a form within its ranges, and its material is there
pub record IsWall (materials : ℕ) (templates : List Template) (w : Wall) : Type 0 where
  pub form : IsForm templates w.form
  pub mat : w.mat < materials

-- a body is within the scene's limits: its velocity, its spin, the length of its quaternion, and its position in the box
pub record IsBody (s : SceneValue) (b : Body) : Type 0 where
  pub v : Within (widened b.v) s.speed
  pub w : Within (widened b.w) s.spin
  pub q : IsFrom MIN_NORM2 MAX_NORM2 (quat_norm2_of b.q)
  pub p : IsTrue (in_box s (widened b.p))

-- a body is sound for a clump: it is within the limits, and the center of each sphere is in the box
pub record IsBodyOf (s : SceneValue) (c : Clump) (b : Body) : Type 0 where
  pub body : IsBody s b
  pub centers : All (λ (x : Ball). IsTrue (in_box s (center_of b x))) (balls_of s.templates c.t)

-- a clump's template is there, its family is one of the sixteen, and its body is sound for it
pub record IsClump (s : SceneValue) (c : Clump) : Type 0 where
  pub t : c.t < length s.templates
  pub family : c.family ≤ MAX_FAMILY
  pub body : IsBodyOf s c c.body

-- a motion is one of a family, with speeds within the ranges of a scene text; the scene's own limits may be lower
pub record IsMotion (m : Motion) : Type 0 where
  pub id : m.id ≤ MAX_FAMILY
  pub v : Within (widened m.v) MAX_SPEED
  pub w : Within (widened m.w) MAX_SPIN

-- the families of the motions ascend, from a least one on
abbrev pub AreAscending : ℕ → List Motion → Type 0
AreAscending least [] = Unit {0}
AreAscending least (m ∷ ms) = (least ≤ m.id) × AreAscending (m.id + 1) ms

-- both families are of the sixteen
pub record IsOff (x : Off) : Type 0 where
  pub f : x.f ≤ MAX_FAMILY
  pub g : x.g ≤ MAX_FAMILY

-- what each scene keeps
pub record IsSound (s : SceneValue) : Type 0 where
  pub nx : IsFrom 1 MAX_VOXELS s.nx
  pub ny : IsFrom 1 MAX_VOXELS s.ny
  pub nz : IsFrom 1 MAX_VOXELS s.nz
  pub steps : s.steps ≤ MAX_STEPS
  pub every : IsFrom 1 MAX_STEPS s.every
  pub speed : IsFrom 1 MAX_SPEED s.speed
  pub spin : IsFrom 1 MAX_SPIN s.spin
  pub gravity : Within (widened s.gravity) MAX_GRAVITY
  pub material_count : IsFrom 1 MAX_MATERIALS (length s.materials)
  pub materials : All IsMaterial s.materials
  pub template_count : IsFrom 1 MAX_TEMPLATES (length s.templates)
  pub templates : All (IsTemplate (length s.materials)) s.templates
  pub wall_count : length s.walls ≤ MAX_WALLS
  pub walls : All (IsWall (length s.materials) s.templates) s.walls
  pub clump_count : IsFrom 1 MAX_CLUMPS (length s.clumps)
  pub clumps : All (IsClump s) s.clumps
  pub sphere_count : length (spheres_of s) ≤ MAX_SPHERES
  pub motion_count : length s.motions ≤ MAX_MOTIONS
  pub motions : All IsMotion s.motions
  pub ascending : AreAscending 0 s.motions
  pub off_count : length s.off ≤ MAX_OFF
  pub off : All IsOff s.off
