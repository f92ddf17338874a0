-- What a wall keeps that was read beside templates whose greatest sphere radius is known.
use Rattle.std.specs.Prelude.{ℕ, pos, ◌≡◌, ◌+◌, ◌<◌, false}
use Rattle.dem_num.specs.Vectors.{widened, Within, is_zero}
use Rattle.dem_model.specs.declared.shape.Form.{Form}
use Rattle.dem_model.specs.declared.shape.Form.TheVariants.{Plane, Cylinder}
use Rattle.dem_model.specs.declared.shape.Wall.{Wall}
use Rattle.dem_model.specs.declared.limits.TheConstants.{MAX_POINT, MAX_DIRECTION, MAX_CYLINDER}
use Rattle.dem_model.specs.Sound.{IsFrom, EachBetween}

-- a plane has a direction; a cylinder is wider than the widest sphere
abbrev pub IsFormBeyond : ℕ → Form → Type 0
IsFormBeyond widest (Plane at dir) = EachBetween (pos 0) (pos MAX_POINT) at × Within (widened dir) MAX_DIRECTION × (is_zero (widened dir) ≡ false)
IsFormBeyond widest (Cylinder axis at r) = EachBetween (pos 0) (pos MAX_POINT) at × IsFrom (widest + 1) MAX_CYLINDER r

-- the form is within its ranges, and its material is there
pub record IsWallBeyond (materials widest : ℕ) (w : Wall) : Type 0 where
  pub form : IsFormBeyond widest w.form
  pub mat : w.mat < materials
