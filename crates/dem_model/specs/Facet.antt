-- Triangle facets: which triangles are good, and when a sphere touches one, how deep, and along what.
use Rattle.std.specs.Prelude.{ℕ, ℤ, pos, ◌+◌, ◌*◌, ◌^◌, ◌+ℤ◌, ◌-ℤ◌, ◌==◌, Bool, ◌&&◌, Option, Some, None, nat_lt, nat_le, int_le, unsigned_abs, if◌then◌else◌}
use Rattle.std.specs.Int.{int_max, int_min}
use Rattle.dem_num.specs.declared.vector.Vec3.{Vec3}
use Rattle.dem_num.specs.declared.vector.Wide3.{Wide3}
use Rattle.dem_num.specs.Numbers.{shifted, root_of}
use Rattle.dem_num.specs.Vectors.{widened, narrowed, sum_of, difference_of, scaled, opposed, quotients, dot_of, turn_product, cross_of, norm2_of}
use Rattle.dem_model.specs.declared.law.Touch.{Touch}
use Rattle.dem_model.specs.declared.limits.TheConstants.{UNIT}

-- the way from one place to another
abbrev pub way : Vec3 → Vec3 → Wide3
way from to = difference_of (widened to) (widened from)

-- the least of three numbers
unfoldable pub least_of : ℤ → ℤ → ℤ → ℤ
least_of x y z = int_min (int_min x y) z

-- the greatest of three numbers
unfoldable pub greatest_of : ℤ → ℤ → ℤ → ℤ
greatest_of x y z = int_max (int_max x y) z

-- ---- the triangle

-- whether three numbers lie within 2^26 of each other
unfoldable pub are_close : ℤ → ℤ → ℤ → Bool
are_close x y z = int_le (greatest_of x y z -ℤ least_of x y z) (pos (2 ^ 26))

-- whether three corners lie within 2^26 of each other on each axis
unfoldable pub corners_close : Vec3 → Vec3 → Vec3 → Bool
corners_close a b c = are_close a.x b.x c.x && are_close a.y b.y c.y && are_close a.z b.z c.z

-- the normal of a triangle, twice as long as its area is large
abbrev pub facet_normal : Vec3 → Vec3 → Vec3 → Wide3
facet_normal a b c = cross_of (way a b) (way a c)

-- whether a triangle is a good facet: its corners are close, and its area isn't too small
unfoldable pub facet_good : Vec3 → Vec3 → Vec3 → Bool
facet_good a b c = corners_close a b c && nat_le (2 ^ 40) (norm2_of (facet_normal a b c))

-- the unit normal of a facet, times 2^30
unfoldable pub facet_unit : Vec3 → Vec3 → Vec3 → Vec3
facet_unit a b c =
    let n = facet_normal a b c in narrowed (quotients (scaled (pos (2 ^ 40)) n) (pos (root_of (2 ^ 20 * norm2_of n))))

-- ---- the box about a facet

-- whether a number is within a reach of the least and the greatest of three
unfoldable pub is_beside : ℤ → ℤ → ℤ → ℕ → ℤ → Bool
is_beside x y z reach w = int_le (least_of x y z -ℤ pos reach) w && int_le w (greatest_of x y z +ℤ pos reach)

-- whether a place is within a reach of the box about a facet
unfoldable pub facet_reaches : Vec3 → Vec3 → Vec3 → Vec3 → ℕ → Bool
facet_reaches a b c s reach = is_beside a.x b.x c.x reach s.x && is_beside a.y b.y c.y reach s.y && is_beside a.z b.z c.z reach s.z

-- whether a sphere is near a facet, with an extra distance
unfoldable pub facet_near : Vec3 → Vec3 → Vec3 → Vec3 → ℕ → ℕ → Bool
facet_near a b c s r extra = facet_reaches a b c s (r + extra)

-- ---- the nearest point

-- a point on an edge: from its start, the part of the edge that these two numbers give
unfoldable pub edge_point : Vec3 → Wide3 → ℤ → ℤ → Wide3
edge_point from edge part whole = sum_of (widened from) (quotients (scaled part edge) whole)

-- whether a place is beyond the corner a
unfoldable pub past_a : ℤ → ℤ → Bool
past_a d1 d2 = int_le d1 (pos 0) && int_le d2 (pos 0)

-- whether a place is beyond the corner b
unfoldable pub past_b : ℤ → ℤ → Bool
past_b d3 d4 = int_le (pos 0) d3 && int_le d4 d3

-- whether a place is beyond the corner c
unfoldable pub past_c : ℤ → ℤ → Bool
past_c d5 d6 = int_le (pos 0) d6 && int_le d5 d6

-- whether a place is beyond the edge from a to b
unfoldable pub past_ab : ℤ → ℤ → ℤ → ℤ → Bool
past_ab d1 d2 d3 d4 = int_le (turn_product d1 d4 d3 d2) (pos 0) && int_le (pos 0) d1 && int_le d3 (pos 0)

-- whether a place is beyond the edge from a to c
unfoldable pub past_ac : ℤ → ℤ → ℤ → ℤ → Bool
past_ac d1 d2 d5 d6 = int_le (turn_product d5 d2 d1 d6) (pos 0) && int_le (pos 0) d2 && int_le d6 (pos 0)

-- whether a place is beyond the edge from b to c
unfoldable pub past_bc : ℤ → ℤ → ℤ → ℤ → Bool
past_bc d3 d4 d5 d6 = int_le (turn_product d3 d6 d5 d4) (pos 0) && int_le (pos 0) (d4 -ℤ d3) && int_le (pos 0) (d5 -ℤ d6)

-- the nearest point on a corner or an edge, by the products of the edges from a with the ways from each corner; none is on the face
unfoldable pub nearest_by : Vec3 → Vec3 → Vec3 → ℤ → ℤ → ℤ → ℤ → ℤ → ℤ → Option Wide3
nearest_by a b c d1 d2 d3 d4 d5 d6 =
    if past_a d1 d2 then Some (widened a)
    else (if past_b d3 d4 then Some (widened b)
    else (if past_ab d1 d2 d3 d4 then Some (edge_point a (way a b) d1 (d1 -ℤ d3))
    else (if past_c d5 d6 then Some (widened c)
    else (if past_ac d1 d2 d5 d6 then Some (edge_point a (way a c) d2 (d2 -ℤ d6))
    else (if past_bc d3 d4 d5 d6 then Some (edge_point b (way b c) (d4 -ℤ d3) ((d4 -ℤ d3) +ℤ (d5 -ℤ d6)))
    else None)))))

-- the nearest point of a facet on a corner or an edge; none where it is on the face
unfoldable pub nearest_of : Vec3 → Vec3 → Vec3 → Vec3 → Option Wide3
nearest_of a b c s =
    nearest_by a b c
    (dot_of (way a b) (way a s))
    (dot_of (way a c) (way a s))
    (dot_of (way a b) (way b s))
    (dot_of (way a c) (way b s))
    (dot_of (way a b) (way c s))
    (dot_of (way a c) (way c s))

-- ---- the touch

-- the unit normal on the side on which the sphere is
unfoldable pub facing : Vec3 → ℤ → Vec3
facing u gap = if int_le (pos 0) gap then u else narrowed (opposed (widened u))

-- a sphere touches the face where its center is closer to it than its radius, on either side
unfoldable pub face_touch : Vec3 → Wide3 → ℕ → Option Touch
face_touch u d r =
    let gap = shifted (dot_of (widened u) d) 30 in
    if nat_lt (unsigned_abs gap) r
    then Some (record { n = facing u gap; delta = pos r -ℤ pos (unsigned_abs gap) })
    else None

-- the direction away from a point; the unit normal where the sphere's center is the point
unfoldable pub away_from : Vec3 → Wide3 → ℕ → Vec3
away_from u d l = if l == 0 then u else narrowed (quotients (scaled (pos UNIT) d) (pos l))

-- a sphere touches a corner or an edge where its center is closer to the point than its radius
unfoldable pub point_touch : Vec3 → Wide3 → ℕ → Option Touch
point_touch u d r =
    let l = root_of (norm2_of d) in
    if nat_lt (norm2_of d) (r * r)
    then Some (record { n = away_from u d l; delta = pos r -ℤ pos l })
    else None

-- how a sphere touches the part of a facet that is nearest to it
abbrev pub part_touch : Vec3 → Vec3 → Vec3 → ℕ → Option Wide3 → Option Touch
part_touch u a s r None = face_touch u (way a s) r
part_touch u a s r (Some p) = point_touch u (difference_of (widened s) p) r

-- how a sphere touches a facet: within its box, the face, an edge or a corner
unfoldable pub facet_touch : Vec3 → Vec3 → Vec3 → Vec3 → ℕ → Option Touch
facet_touch a b c s r = if facet_reaches a b c s r then part_touch (facet_unit a b c) a s r (nearest_of a b c s) else None
