-- A sphere inside a cylinder: its distance from the axis, and the normal that points to the axis.
use Rattle.std.specs.Prelude.{ℕ}
use Rattle.dem_num.specs.declared.vector.Vec3.{Vec3}
use Rattle.dem_num.specs.declared.vector.Wide3.{Wide3}
use Rattle.dem_num.specs.Numbers.{root_of}
use Rattle.dem_model.specs.declared.shape.Axis.{Axis}
use Rattle.dem_model.specs.Touch.{first_across, second_across, across, distance2_of, inward}

-- the distance from a cylinder's axis, rounded down
abbrev pub axis_distance_of : Axis → Wide3 → ℕ
axis_distance_of axis d = root_of (distance2_of (first_across axis d) (second_across axis d))

-- the normal of a cylinder, across its axis and toward it
abbrev pub inward_normal : Axis → Wide3 → Vec3
inward_normal axis d = across axis (inward (first_across axis d) (axis_distance_of axis d)) (inward (second_across axis d) (axis_distance_of axis d))
