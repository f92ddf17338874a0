-- The pose of a body: where it is, and its matrix.
use Rattle.std.specs.Prelude.{ℕ, ◌≡◌, ◌<◌, ◌^◌, List, length}
use Rattle.dem_num.specs.Vectors.{widened, Within}
use Rattle.dem_num.specs.Rotations.{matrix_of, EntriesWithin}
use Rattle.dem_model.specs.SceneValue.{SceneValue}
use Rattle.dem_model.specs.Centers.{body_at}
use Rattle.dem_model.specs.declared.state.Body.{Body}
use Rattle.dem_shape.specs.declared.pose.Pose.{Pose}

-- a pose is that of the body of clump k
pub record IsPose (s : SceneValue) (bodies : List Body) (k : ℕ) (pose : Pose) : Type 0 where
  pub clump : pose.clump ≡ k
  pub there : k < length s.clumps
  pub place : pose.p ≡ (body_at bodies k).p
  pub rows : pose.rows ≡ matrix_of (body_at bodies k).q
  pub entries : EntriesWithin pose.rows (2 ^ 30)
  pub small : Within (widened pose.p) (2 ^ 36)
