-- A scene as contracts see it: the box, the limits, and lists of materials, templates, walls, clumps, motions and families that are off.
use Rattle.std.specs.Prelude.{ℕ, List}
use Rattle.dem_num.specs.declared.vector.Vec3.{Vec3}
use Rattle.dem_model.specs.declared.shape.Material.{Material}
use Rattle.dem_model.specs.declared.shape.Template.{Template}
use Rattle.dem_model.specs.declared.shape.Wall.{Wall}
use Rattle.dem_model.specs.declared.state.Clump.{Clump}
use Rattle.dem_model.specs.declared.family.Motion.{Motion}
use Rattle.dem_model.specs.declared.family.Off.{Off}

-- all that a run starts from
pub record SceneValue : Type 0 where
  pub nx : ℕ
  pub ny : ℕ
  pub nz : ℕ
  pub steps : ℕ
  pub every : ℕ
  pub speed : ℕ
  pub spin : ℕ
  pub gravity : Vec3
  pub materials : List Material
  pub templates : List Template
  pub walls : List Wall
  pub clumps : List Clump
  pub motions : List Motion
  pub off : List Off
