-- What the table of a scene text gives, whatever the speeds and the places of the clumps.
use Rattle.std.specs.Prelude.{◌≤◌, length, All}
use Rattle.dem_num.specs.Vectors.{widened, Within}
use Rattle.dem_model.specs.SceneValue.{SceneValue}
use Rattle.dem_model.specs.Spheres.{spheres_of}
use Rattle.dem_model.specs.Sound.{IsFrom, IsMaterial, IsTemplate, IsMotion, AreAscending, IsOff}
use Rattle.dem_model.specs.ReadingKinds.{greatest_radius}
use Rattle.dem_model.specs.declared.limits.TheConstants.{MAX_VOXELS, MAX_STEPS, MAX_SPEED, MAX_SPIN, MAX_GRAVITY, MAX_MATERIALS, MAX_TEMPLATES, MAX_WALLS, MAX_CLUMPS, MAX_SPHERES, MAX_MOTIONS, MAX_OFF}
use Rattle.dem_scene.specs.Walls.{IsWallBeyond}
use Rattle.dem_scene.specs.Clumps.{IsClumpRead}

-- every range, index and count of the table
pub record KeepsTable (s : SceneValue) : Type 0 where
  pub nx : IsFrom 1 MAX_VOXELS s.nx
  pub ny : IsFrom 1 MAX_VOXELS s.ny
  pub nz : IsFrom 1 MAX_VOXELS s.nz
  pub steps : s.steps ≤ MAX_STEPS
  pub every : IsFrom 1 MAX_STEPS s.every
  pub speed : IsFrom 1 MAX_SPEED s.speed
  pub spin : IsFrom 1 MAX_SPIN s.spin
  pub gravity : Within (widened s.gravity) MAX_GRAVITY
  pub material_count : IsFrom 1 MAX_MATERIALS (length s.materials)
  pub materials : All IsMaterial s.materials
  pub template_count : IsFrom 1 MAX_TEMPLATES (length s.templates)
  pub templates : All (IsTemplate (length s.materials)) s.templates
  pub wall_count : length s.walls ≤ MAX_WALLS
  pub walls : All (IsWallBeyond (length s.materials) (greatest_radius s.templates)) s.walls
  pub clump_count : IsFrom 1 MAX_CLUMPS (length s.clumps)
  pub clumps : All (IsClumpRead s.templates) s.clumps
  pub sphere_count : length (spheres_of s) ≤ MAX_SPHERES
  pub motion_count : length s.motions ≤ MAX_MOTIONS
  pub motions : All IsMotion s.motions
  pub ascending : AreAscending 0 s.motions
  pub off_count : length s.off ≤ MAX_OFF
  pub off : All IsOff s.off
