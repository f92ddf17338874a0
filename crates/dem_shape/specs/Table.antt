-- What the tables keep of each sphere and of each wall.
use Rattle.std.specs.Prelude.{◌≡◌, ◌^◌, List, All, map}
use Rattle.dem_num.specs.declared.vector.Vec3.{Vec3}
use Rattle.dem_num.specs.Vectors.{widened, Within}
use Rattle.dem_num.specs.Rotations.{arm_of}
use Rattle.dem_model.specs.SceneValue.{SceneValue}
use Rattle.dem_model.specs.Spheres.{Sphere, spheres_of}
use Rattle.dem_model.specs.Sound.{IsSound}
use Rattle.dem_model.specs.Motion.{per_step_of}
use Rattle.dem_model.specs.Families.{family_of}
use Rattle.dem_shape.specs.Offs.{offs_of}
use Rattle.dem_model.specs.declared.shape.Wall.{Wall}
use Rattle.dem_wall.specs.Normal.{wall_normal_of}
use Rattle.dem_shape.specs.declared.entry.Entry.{Entry}

-- a sphere's clump, what the template says of it, its arm, its movement bound, its family and the families that are off with that
abbrev pub table_entry_of : SceneValue → Sphere → Entry
table_entry_of s x = record {
  clump = x.clump;
  ball = x.ball;
  arm = arm_of (widened x.ball.at);
  per_step = per_step_of s x.ball;
  family = family_of s x.clump;
  offs = offs_of s.off (family_of s x.clump);
}

-- the table has an entry for each sphere of a sound scene, in order
pub record IsTable (s : SceneValue) (entries : List Entry) : Type 0 where
  pub each : entries ≡ map (table_entry_of s) (spheres_of s)
  pub sound : IsSound s

-- there is a unit normal for each wall, and none is too great
pub record AreNormals (walls : List Wall) (normals : List Vec3) : Type 0 where
  pub each : normals ≡ map wall_normal_of walls
  pub small : All (λ n. Within (widened n) (2 ^ 30)) normals

-- the spheres and the walls of a scene stand in their tables
pub record AreTables (s : SceneValue) (entries : List Entry) (normals : List Vec3) : Type 0 where
  pub spheres : IsTable s entries
  pub walls : AreNormals s.walls normals
