-- What touches at a later place is near at an earlier one: two spheres, a sphere and a plane, a sphere in a cylinder.
use Rattle.std.proofs.Common.{◌≡◌, ℕ, ◌+◌, ◌-◌, ◌*◌, ◌^◌, ◌<◌, ◌≤◌, arith, ℤ, ◌-ℤ◌, unsigned_abs, Bool, true, false, Some, None, List, refl}
use Rattle.std.specs.Prelude.{is_some, if◌then◌else◌, nat_lt, not}
use Rattle.std.proofs.lemmas.Bool.{ltb-true, lt-ltb, le-ltb, and_from, not_from_false}
use Rattle.std.proofs.lemmas.Int.{ints}
use Rattle.std.proofs.lemmas.Nat.{mul-le}
use Rattle.dem_num.specs.declared.vector.Vec3.{Vec3}
use Rattle.dem_num.specs.Vectors.{widened, difference_of, dot_of, norm2_of, is_zero, Within}
use Rattle.dem_num.proofs.ProductBounds.{lt_from_squares}
use Rattle.dem_model.specs.Touch.{spheres_touch, plane_touch, cylinder_touch, form_touch, wall_touch_of, gap_of, unit_of, distance2_of}
use Rattle.dem_model.specs.Near.{spheres_near, plane_near, cylinder_near, form_near, wall_near_of}
use Rattle.dem_model.specs.Sound.{IsForm, IsWall}
use Rattle.dem_model.specs.declared.shape.Axis.{Axis}
use Rattle.dem_model.specs.declared.shape.Axis.TheVariants.{X, Y, Z}
use Rattle.dem_model.specs.declared.shape.Form.{Form}
use Rattle.dem_model.specs.declared.shape.Form.TheVariants.{Plane, Cylinder}
use Rattle.dem_model.specs.declared.shape.Template.{Template}
use Rattle.dem_model.specs.declared.shape.Wall.{Wall}
use Rattle.dem_wall.proofs.UnitFacts.{unit_of-within}
use Rattle.dem_margin.proofs.DotFacts.{dot_change_le}
use Rattle.dem_margin.proofs.FloorFacts.{shifted_near}

-- there is something only where the test passed
then_some : {A : Type 0} (b : Bool) (x : A) → is_some (if b then Some x else None) ≡ true → b ≡ true
then_some true x h = refl
then_some false x h = h

-- a component is less than what the length is less than
part_below : (a n m : ℕ) → a * a ≤ n → n < m * m → a < m
part_below a n m h l = lt_from_squares a m (omega arith)

-- what was apart by less than the radii was apart before by no more than those and both changes
apart_before : (na nb fa fb : ℤ) (ra rb da db : ℕ) → unsigned_abs (na -ℤ nb) < ra + rb → unsigned_abs (na -ℤ fa) ≤ da → unsigned_abs (nb -ℤ fb) ≤ db →
    unsigned_abs (fa -ℤ fb) ≤ ra + da + (rb + db)
apart_before na nb fa fb ra rb da db h a b = omega (arith, ints)

-- the test on one axis
axis_near : (n reach : ℕ) → n ≤ reach → not (nat_lt reach n) ≡ true
axis_near n reach h = not_from_false (nat_lt reach n) (le-ltb reach n h)

-- two spheres that touch were near
pub spheres_cover : (na nb fa fb : Vec3) (ra rb da db : ℕ) →
    Within (difference_of (widened na) (widened fa)) da → Within (difference_of (widened nb) (widened fb)) db →
    is_some (spheres_touch (difference_of (widened na) (widened nb)) (ra + rb)) ≡ true →
    spheres_near (difference_of (widened fa) (widened fb)) (ra + da + (rb + db)) ≡ true
unfolding spheres_touch spheres_near norm2_of
spheres_cover na nb fa fb ra rb da db a b h =
    let close : norm2_of (difference_of (widened na) (widened nb)) < (ra + rb) * (ra + rb) = ltb-true _ _ (then_some _ _ h) in
    let x : unsigned_abs (na.x -ℤ nb.x) < ra + rb = part_below _ _ (ra + rb) (omega arith) close in
    let y : unsigned_abs (na.y -ℤ nb.y) < ra + rb = part_below _ _ (ra + rb) (omega arith) close in
    let z : unsigned_abs (na.z -ℤ nb.z) < ra + rb = part_below _ _ (ra + rb) (omega arith) close in
    and_from _ _
    (and_from _ _ (axis_near _ _ (apart_before na.x nb.x fa.x fb.x ra rb da db x a.x b.x)) (axis_near _ _ (apart_before na.y nb.y fa.y fb.y ra rb da db y a.y b.y)))
    (axis_near _ _ (apart_before na.z nb.z fa.z fb.z ra rb da db z a.z b.z))

-- a sphere that touches a plane was near it
pub plane_covers : (at dir now from : Vec3) (r extra : ℕ) → is_zero (widened dir) ≡ false →
    Within (difference_of (widened now) (widened from)) extra →
    is_some (plane_touch at dir now r) ≡ true → plane_near at dir from r extra ≡ true
unfolding plane_touch plane_near gap_of
plane_covers at dir now from r extra some a h =
    shifted_near (dot_of (widened (unit_of dir)) (difference_of (widened from) (widened at))) (dot_of (widened (unit_of dir)) (difference_of (widened now) (widened at))) 30 (3 * extra) r
    (dot_change_le (widened (unit_of dir)) (widened from) (widened now) (widened at) (2 ^ 30) extra (unit_of-within dir some) a)
    (then_some _ _ h)

-- a component across is no longer than it was before, and its change
across_le : (n f t : ℤ) (extra : ℕ) → unsigned_abs (n -ℤ f) ≤ extra → unsigned_abs (n -ℤ t) ≤ unsigned_abs (f -ℤ t) + extra
across_le n f t extra h = omega (arith, ints)

squares_le : (a b : ℕ) → a ≤ b → a * a ≤ b * b
squares_le a b h = mul-le a a b b h h

-- what is farther from the axis than that was so before, moved outward
across_near : (ne nf fe ff te tf : ℤ) (bound extra : ℕ) → unsigned_abs (ne -ℤ fe) ≤ extra → unsigned_abs (nf -ℤ ff) ≤ extra →
    nat_lt bound (distance2_of (ne -ℤ te) (nf -ℤ tf)) ≡ true →
    nat_lt bound ((unsigned_abs (fe -ℤ te) + extra) * (unsigned_abs (fe -ℤ te) + extra) + (unsigned_abs (ff -ℤ tf) + extra) * (unsigned_abs (ff -ℤ tf) + extra)) ≡ true
unfolding distance2_of
across_near ne nf fe ff te tf bound extra a b h =
    let far : bound < unsigned_abs (ne -ℤ te) * unsigned_abs (ne -ℤ te) + unsigned_abs (nf -ℤ tf) * unsigned_abs (nf -ℤ tf) = ltb-true _ _ h in
    let first : unsigned_abs (ne -ℤ te) * unsigned_abs (ne -ℤ te) ≤ (unsigned_abs (fe -ℤ te) + extra) * (unsigned_abs (fe -ℤ te) + extra) = squares_le _ _ (across_le ne fe te extra a) in
    let second : unsigned_abs (nf -ℤ tf) * unsigned_abs (nf -ℤ tf) ≤ (unsigned_abs (ff -ℤ tf) + extra) * (unsigned_abs (ff -ℤ tf) + extra) = squares_le _ _ (across_le nf ff tf extra b) in
    lt-ltb _ _ (omega arith)

-- a sphere that touches a cylinder was near it
pub cylinder_covers : (axis : Axis) (at : Vec3) (radius : ℕ) (now from : Vec3) (r extra : ℕ) →
    Within (difference_of (widened now) (widened from)) extra →
    is_some (cylinder_touch axis at radius now r) ≡ true → cylinder_near axis at radius from r extra ≡ true
unfolding cylinder_touch cylinder_near
cylinder_covers X at radius now from r extra a h = across_near now.y now.z from.y from.z at.y at.z ((radius - r) * (radius - r)) extra a.y a.z (then_some _ _ h)
cylinder_covers Y at radius now from r extra a h = across_near now.x now.z from.x from.z at.x at.z ((radius - r) * (radius - r)) extra a.x a.z (then_some _ _ h)
cylinder_covers Z at radius now from r extra a h = across_near now.x now.y from.x from.y at.x at.y ((radius - r) * (radius - r)) extra a.x a.y (then_some _ _ h)

-- a sphere that touches a wall of this form was near it
form_covers : (templates : List Template) (f : Form) (now from : Vec3) (r extra : ℕ) → IsForm templates f →
    Within (difference_of (widened now) (widened from)) extra →
    is_some (form_touch f now r) ≡ true → form_near f from r extra ≡ true
form_covers templates (Plane at dir) now from r extra form a h = plane_covers at dir now from r extra form.2 a h
form_covers templates (Cylinder axis at radius) now from r extra form a h = cylinder_covers axis at radius now from r extra a h

-- a sphere that touches a wall was near it
pub wall_covers : (m : ℕ) (templates : List Template) (w : Wall) (now from : Vec3) (r extra : ℕ) → IsWall m templates w →
    Within (difference_of (widened now) (widened from)) extra →
    is_some (wall_touch_of w now r) ≡ true → wall_near_of w from r extra ≡ true
unfolding wall_touch_of wall_near_of
wall_covers m templates w now from r extra wall a h = form_covers templates w.form now from r extra wall.form a h
