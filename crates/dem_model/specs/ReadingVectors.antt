-- Reading vectors and quaternions: lists of exactly three and of exactly four whole numbers.
use Rattle.std.specs.Prelude.{ℕ, ℤ, pos, ◌^◌, Bool, not, ◌&&◌, nat_le, List, Option, Some, None, option_and_then, Result, ok_or}
use Rattle.serde_json.specs.Data.{Data, Items, no_items, item}
use Rattle.serde_json.specs.Find.{get, as_array}
use Rattle.dem_num.specs.declared.vector.Vec3.{Vec3}
use Rattle.dem_num.specs.declared.vector.Quat.{Quat}
use Rattle.dem_num.specs.Vectors.{widened, is_zero}
use Rattle.dem_num.specs.Rotations.{quat_norm2_of}
use Rattle.dem_model.specs.declared.fault.Spot.{Spot}
use Rattle.dem_model.specs.declared.fault.SceneFault.{SceneFault}
use Rattle.dem_model.specs.declared.fault.SceneFault.TheVariants.{Field, Range}
use Rattle.dem_model.specs.declared.limits.TheConstants.{MIN_NORM2, MAX_NORM2, MAX_DIRECTION}
use Rattle.dem_model.specs.Reading.{◌>>=◌, required, optional, if_so, whole, at_most}

-- a vector, where each component is a number
abbrev pub vector_of_three : Option ℤ → Option ℤ → Option ℤ → Option Vec3
vector_of_three (Some x) (Some y) (Some z) = Some (record { x = x; y = y; z = z })
vector_of_three _ _ _ = None

-- the vector that a list is: exactly three whole numbers
abbrev pub three_of : Items → Option Vec3
three_of (item x (item y (item z no_items))) = vector_of_three (whole x) (whole y) (whole z)
three_of _ = None

-- a quaternion, where each component is a number
abbrev pub quaternion_of_four : Option ℤ → Option ℤ → Option ℤ → Option ℤ → Option Quat
quaternion_of_four (Some a) (Some b) (Some c) (Some d) = Some (record { a = a; b = b; c = c; d = d })
quaternion_of_four _ _ _ _ = None

-- the quaternion that a list is: exactly four whole numbers
abbrev pub four_of : Items → Option Quat
four_of (item a (item b (item c (item d no_items)))) = quaternion_of_four (whole a) (whole b) (whole c) (whole d)
four_of _ = None

-- whether each component passes a test
abbrev pub each_is : (ℤ → Bool) → Vec3 → Bool
each_is test v = test v.x && test v.y && test v.z

-- a vector, whatever the size of its components
unfoldable pub three_at : Spot → Data → Result Vec3 SceneFault
three_at at d = ok_or (option_and_then three_of (as_array d)) (Field at)

-- a vector whose components pass a test
unfoldable pub vector_of : (ℤ → Bool) → Spot → Data → Result Vec3 SceneFault
vector_of test at d = do
  v ← three_at at d
  if_so (Range at) (each_is test v) v

-- a vector under its name
unfoldable pub vector_at : List ℕ → (ℤ → Bool) → Spot → Data → Result Vec3 SceneFault
vector_at name test at d = required at (vector_of test at) (get name d)

-- the vector of zeros
abbrev pub zero_vector : Vec3
zero_vector = record { x = pos 0; y = pos 0; z = pos 0 }

-- a vector under its name, or zero
unfoldable pub vector_or : List ℕ → (ℤ → Bool) → Spot → Data → Result Vec3 SceneFault
vector_or name test at d = optional zero_vector (vector_of test at) (get name d)

-- a direction: a vector that isn't zero
unfoldable pub direction_of : Spot → Data → Result Vec3 SceneFault
direction_of at d = do
  v ← vector_of (at_most MAX_DIRECTION) at d
  if_so (Range at) (not (is_zero (widened v))) v

-- a direction under its name
unfoldable pub direction_at : List ℕ → Spot → Data → Result Vec3 SceneFault
direction_at name at d = required at (direction_of at) (get name d)

-- a quaternion, whatever its length
unfoldable pub four_at : Spot → Data → Result Quat SceneFault
four_at at d = ok_or (option_and_then four_of (as_array d)) (Field at)

-- whether each component of a quaternion is at most 2^31 in size
abbrev pub is_bounded : Quat → Bool
is_bounded q = at_most (2 ^ 31) q.a && at_most (2 ^ 31) q.b && at_most (2 ^ 31) q.c && at_most (2 ^ 31) q.d

-- whether the squared length of a quaternion is in its range
abbrev pub is_long : Quat → Bool
is_long q = nat_le MIN_NORM2 (quat_norm2_of q) && nat_le (quat_norm2_of q) MAX_NORM2

-- a quaternion within its range
unfoldable pub quaternion_of : Spot → Data → Result Quat SceneFault
quaternion_of at d = do
  q ← four_at at d
  if_so (Range at) (is_bounded q && is_long q) q

-- the quaternion that turns nothing
abbrev pub default_quaternion : Quat
default_quaternion = record { a = pos (2 ^ 30); b = pos 0; c = pos 0; d = pos 0 }

-- a quaternion under its name, or the one that turns nothing
unfoldable pub quaternion_or : List ℕ → Spot → Data → Result Quat SceneFault
quaternion_or name at d = optional default_quaternion (quaternion_of at) (get name d)
