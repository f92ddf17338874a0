-- A plane whose unit normal was made once.
use Rattle.std.specs.Prelude.{◌≡◌, ◌^◌}
use Rattle.dem_num.specs.declared.vector.Vec3.{Vec3}
use Rattle.dem_num.specs.Vectors.{widened, Within}
use Rattle.dem_model.specs.Touch.{unit_of}
use Rattle.dem_model.specs.declared.shape.Form.TheVariants.{Plane}
use Rattle.dem_model.specs.declared.shape.Wall.{Wall}
use Rattle.dem_bins.specs.declared.facing.Face.{Face}

-- a wall is the plane with this point and this unit normal
pub record IsFaceOf (w : Wall) (f : Face) : Type 0 where
  pub dir : Vec3
  pub form : w.form ≡ Plane f.at dir
  pub unit : f.normal ≡ unit_of dir
  pub normal_small : Within (widened f.normal) (2 ^ 30)
  pub point_small : Within (widened f.at) (2 ^ 36)
