-- Two spheres, a plane and a cylinder: when a sphere touches, how deep, and along what.
use Rattle.std.specs.Prelude.{ℕ, ℤ, pos, ◌+◌, ◌-◌, ◌*◌, ◌^◌, ◌+ℤ◌, ◌-ℤ◌, ◌*ℤ◌, ◌==◌, Option, Some, None, nat_lt, int_lt, unsigned_abs, if◌then◌else◌}
use Rattle.std.specs.Int.{int_max, int_min}
use Rattle.dem_num.specs.declared.vector.Vec3.{Vec3}
use Rattle.dem_num.specs.declared.vector.Wide3.{Wide3}
use Rattle.dem_num.specs.Numbers.{quotient, shifted, opposite, root_of}
use Rattle.dem_num.specs.Vectors.{widened, narrowed, difference_of, scaled, quotients, dot_of, norm2_of}
use Rattle.dem_model.specs.declared.law.Touch.{Touch}
use Rattle.dem_model.specs.declared.shape.Axis.{Axis}
use Rattle.dem_model.specs.declared.shape.Axis.TheVariants.{X, Y, Z}
use Rattle.dem_model.specs.declared.shape.Form.{Form}
use Rattle.dem_model.specs.declared.shape.Form.TheVariants.{Plane, Cylinder}
use Rattle.dem_model.specs.declared.shape.Wall.{Wall}
use Rattle.dem_model.specs.declared.limits.TheConstants.{UNIT, MAX_OVERLAP}

-- the direction of a difference of centers, times 2^30; along x where the centers are one
unfoldable pub normal_of : Wide3 → Vec3
normal_of d = let l = root_of (norm2_of d) in
    if l == 0 then record { x = pos UNIT; y = pos 0; z = pos 0 } else narrowed (quotients (scaled (pos UNIT) d) (pos l))

-- two spheres touch where their centers, the first less the second, are closer than the radii together
unfoldable pub spheres_touch : Wide3 → ℕ → Option Touch
spheres_touch d radii =
    if nat_lt (norm2_of d) (radii * radii)
    then Some (record { n = normal_of d; delta = pos radii -ℤ pos (root_of (norm2_of d)) })
    else None

-- the unit normal of a plane, times 2^30
unfoldable pub unit_of : Vec3 → Vec3
unit_of dir = narrowed (quotients (scaled (pos (2 ^ 70)) (widened dir)) (pos (root_of (2 ^ 80 * norm2_of (widened dir)))))

-- how far a place is in front of a plane
unfoldable pub gap_of : Vec3 → Vec3 → Vec3 → ℤ
gap_of at dir c = shifted (dot_of (widened (unit_of dir)) (difference_of (widened c) (widened at))) 30

-- a sphere touches a plane where its center is closer in front of it than its radius
unfoldable pub plane_touch : Vec3 → Vec3 → Vec3 → ℕ → Option Touch
plane_touch at dir c r =
    let gap = gap_of at dir c in
    if int_lt gap (pos r)
    then Some (record { n = unit_of dir; delta = int_min (pos r -ℤ gap) (pos MAX_OVERLAP) })
    else None

-- the first of the two components across an axis
abbrev pub first_across : Axis → Wide3 → ℤ
first_across X d = d.y
first_across Y d = d.x
first_across Z d = d.x

-- the second of the two components across an axis
abbrev pub second_across : Axis → Wide3 → ℤ
second_across X d = d.z
second_across Y d = d.z
second_across Z d = d.y

-- the vector with these components across an axis, and none along it
abbrev pub across : Axis → ℤ → ℤ → Vec3
across X e f = record { x = pos 0; y = e; z = f }
across Y e f = record { x = e; y = pos 0; z = f }
across Z e f = record { x = e; y = f; z = pos 0 }

-- the square of the distance from a cylinder's axis
unfoldable pub distance2_of : ℤ → ℤ → ℕ
distance2_of e f = unsigned_abs e * unsigned_abs e + unsigned_abs f * unsigned_abs f

-- a component of a cylinder's normal, which points to its axis
unfoldable pub inward : ℤ → ℕ → ℤ
inward e distance = quotient (opposite (pos UNIT *ℤ e)) (pos distance)

-- a sphere inside a cylinder touches it where its center is farther from the axis than the radii allow
unfoldable pub cylinder_touch : Axis → Vec3 → ℕ → Vec3 → ℕ → Option Touch
cylinder_touch axis at radius c r =
    let d = difference_of (widened c) (widened at) in
    let e = first_across axis d in
    let f = second_across axis d in
    let distance = root_of (distance2_of e f) in
    if nat_lt ((radius - r) * (radius - r)) (distance2_of e f)
    then Some (record {
      n = across axis (inward e distance) (inward f distance);
      delta = int_min (int_max (pos 1) (pos distance +ℤ pos r -ℤ pos radius)) (pos MAX_OVERLAP);
    })
    else None

-- how a sphere touches a wall
abbrev pub form_touch : Form → Vec3 → ℕ → Option Touch
form_touch (Plane at dir) c r = plane_touch at dir c r
form_touch (Cylinder axis at radius) c r = cylinder_touch axis at radius c r

-- how a sphere touches a wall
unfoldable pub wall_touch_of : Wall → Vec3 → ℕ → Option Touch
wall_touch_of w c r = form_touch w.form c r
