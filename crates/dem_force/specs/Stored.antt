-- Displacements that may be stored.
use Rattle.std.specs.Prelude.{All, IfSome, List, Option}
use Rattle.dem_num.specs.declared.vector.Vec3.{Vec3}
use Rattle.dem_num.specs.Vectors.{widened, Within}
use Rattle.dem_model.specs.declared.limits.TheConstants.{MAX_DISPLACEMENT}
use Rattle.dem_model.specs.declared.state.Held.{Held}

-- a displacement is within its range, where there is one
abbrev pub IsStored : Option Vec3 → Type 0
IsStored e = IfSome e (λ (h : Vec3). Within (widened h) MAX_DISPLACEMENT)

-- each displacement that is held is within its range
abbrev pub AreStored : List Held → Type 0
AreStored held = All (λ (e : Held). Within (widened e.h) MAX_DISPLACEMENT) held
