-- A push before rolling resistance.
use Rattle.std.specs.Prelude.{◌+◌, ◌^◌}
use Rattle.dem_num.specs.Vectors.{widened, Within}
use Rattle.dem_model.specs.declared.law.Push.{Push}
use Rattle.dem_model.specs.declared.limits.TheConstants.{MAX_DISPLACEMENT}

-- the sizes of a push before rolling resistance: its torques leave room for that
pub record IsUnrolled (p : Push) : Type 0 where
  pub force : Within p.force (2 ^ 63)
  pub torque_a : Within p.torque_a (2 ^ 92 + 2 ^ 89)
  pub torque_b : Within p.torque_b (2 ^ 92 + 2 ^ 89)
  pub h : Within (widened p.h) MAX_DISPLACEMENT
