-- What a clump keeps that was read beside templates, whatever its speed and its place.
use Rattle.std.specs.Prelude.{◌<◌, ◌≤◌, List, length}
use Rattle.dem_num.specs.Rotations.{quat_norm2_of}
use Rattle.dem_model.specs.declared.shape.Template.{Template}
use Rattle.dem_model.specs.declared.state.Clump.{Clump}
use Rattle.dem_model.specs.declared.limits.TheConstants.{MIN_NORM2, MAX_NORM2, MAX_FAMILY}
use Rattle.dem_model.specs.Sound.{IsFrom}

-- its template is there, its family is one of the sixteen, and its quaternion is long enough and short enough
pub record IsClumpRead (templates : List Template) (c : Clump) : Type 0 where
  pub t : c.t < length templates
  pub family : c.family ≤ MAX_FAMILY
  pub q : IsFrom MIN_NORM2 MAX_NORM2 (quat_norm2_of c.body.q)
