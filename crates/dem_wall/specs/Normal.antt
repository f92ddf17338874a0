-- The unit normals of walls: a plane has one, a cylinder's changes from place to place.
use Rattle.std.specs.Prelude.{◌≡◌, false}
use Rattle.dem_num.specs.declared.vector.Vec3.{Vec3}
use Rattle.dem_num.specs.Vectors.{widened, narrowed, no_vector, Within, is_zero}
use Rattle.dem_model.specs.Touch.{unit_of}
use Rattle.dem_model.specs.declared.limits.TheConstants.{MAX_DIRECTION}
use Rattle.dem_model.specs.declared.shape.Form.{Form}
use Rattle.dem_model.specs.declared.shape.Form.TheVariants.{Plane, Cylinder}
use Rattle.dem_model.specs.declared.shape.Wall.{Wall}

-- the unit normal of a form, times 2^30; zeros where it has none of its own
abbrev pub form_normal : Form → Vec3
form_normal (Plane at dir) = unit_of dir
form_normal (Cylinder axis at r) = narrowed no_vector

-- the unit normal of a wall, times 2^30; zeros where it has none of its own
unfoldable pub wall_normal_of : Wall → Vec3
wall_normal_of w = form_normal w.form

-- a plane has a direction within its range
abbrev pub HasDirection : Form → Type 0
HasDirection (Plane at dir) = Within (widened dir) MAX_DIRECTION × (is_zero (widened dir) ≡ false)
HasDirection (Cylinder axis at r) = Unit {0}
