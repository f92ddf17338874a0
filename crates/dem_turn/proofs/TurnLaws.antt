-- What turning does, with no division: products of quaternions, lengths, and how far one step of spin moves a vector.
use Rattle.std.proofs.Common.{◌≡◌, ◌+◌, ◌*◌, ◌^◌, ◌≤◌, ℤ, pos, negsuc, ◌+ℤ◌, ◌*ℤ◌, unsigned_abs, List, [], ◌∷◌, arith, refl, sym, ap, ap₂, ◌∙◌}
use Rattle.dem_num.specs.declared.vector.Wide3.{Wide3}
use Rattle.dem_num.specs.declared.vector.Quat.{Quat}
use Rattle.dem_num.specs.Numbers.{square_of, opposite}
use Rattle.dem_num.specs.Vectors.{sum_of, difference_of, scaled, dot_of, cross_of, turn_product, norm2_of}
use Rattle.dem_num.specs.Rotations.{quat_norm2_of, axial, mixed_sum, mixed_difference, stepped_of, spun_a, spun_b, spun_c, spun_d}
use Rattle.dem_turn.specs.Forms.{form_x, form_y, form_z, form_turned, step_quat, step_norm2_of, swing_of}
use Rattle.dem_turn.proofs.Identity.{Term, var, num, plus, minus, times, identity}
use Rattle.dem_turn.proofs.FormTerms.{x_term, y_term, z_term, norm2_term, quat_norm2_term, turn_term, dot_term, square, stepped_a, stepped_b, stepped_c, stepped_d}

-- a square, as a whole number
pub square-is : (x : ℤ) → pos (square_of x) ≡ x *ℤ x
square-is (pos n) = refl
square-is (negsuc n) = refl

-- the squared length of a vector, as a whole number
pub norm2-is : (a : Wide3) → pos (norm2_of a) ≡ a.x *ℤ a.x +ℤ a.y *ℤ a.y +ℤ a.z *ℤ a.z
unfolding norm2_of
norm2-is a = ap₂ (λ u v. u +ℤ v) (ap₂ (λ u v. u +ℤ v) (square-is a.x) (square-is a.y)) (square-is a.z)

-- the squared length of a quaternion, as a whole number
pub quat_norm2-is : (q : Quat) → pos (quat_norm2_of q) ≡ q.a *ℤ q.a +ℤ q.b *ℤ q.b +ℤ q.c *ℤ q.c +ℤ q.d *ℤ q.d
unfolding quat_norm2_of
quat_norm2-is q = ap₂ (λ u v. u +ℤ v) (ap₂ (λ u v. u +ℤ v) (ap₂ (λ u v. u +ℤ v) (square-is q.a) (square-is q.b)) (square-is q.c)) (square-is q.d)

-- the letters of a quaternion, a spin and a vector, and what one stands for
abbrev letters : Quat → Wide3 → Wide3 → List ℤ
letters q w o = q.a ∷ q.b ∷ q.c ∷ q.d ∷ w.x ∷ w.y ∷ w.z ∷ o.x ∷ o.y ∷ o.z ∷ pos (2 ^ 31) ∷ []

abbrev with_quat : (Term → Term → Term → Term → Term → Term → Term → Term) → Term → Term → Term → Term
with_quat f = f (var 0) (var 1) (var 2) (var 3)

abbrev with_step : (Term → Term → Term → Term → Term → Term → Term → Term) → Term → Term → Term → Term
with_step f = f (var 10) (var 4) (var 5) (var 6)

abbrev with_stepped : (Term → Term → Term → Term → Term → Term → Term → Term) → Term → Term → Term → Term
with_stepped f =
    f (stepped_a (var 10) (var 0) (var 1) (var 2) (var 3) (var 4) (var 5) (var 6))
    (stepped_b (var 10) (var 0) (var 1) (var 2) (var 3) (var 4) (var 5) (var 6))
    (stepped_c (var 10) (var 0) (var 1) (var 2) (var 3) (var 4) (var 5) (var 6))
    (stepped_d (var 10) (var 0) (var 1) (var 2) (var 3) (var 4) (var 5) (var 6))

abbrev on_vector : (Term → Term → Term → Term) → Term
on_vector f = f (var 7) (var 8) (var 9)

-- a row on the vector turned by the step
abbrev on_step : (Term → Term → Term → Term) → Term
on_step f = f (on_vector (with_step x_term)) (on_vector (with_step y_term)) (on_vector (with_step z_term))

product-x : (q : Quat) (w o : Wide3) → dot_of (form_x (stepped_of q w)) o ≡ dot_of (form_x q) (form_turned (step_quat w) o)
unfolding dot_of axial mixed_sum mixed_difference stepped_of spun_a spun_b spun_c spun_d opposite
product-x q w o = identity (letters q w o) (with_stepped x_term (var 7) (var 8) (var 9)) (on_step (with_quat x_term)) refl

product-y : (q : Quat) (w o : Wide3) → dot_of (form_y (stepped_of q w)) o ≡ dot_of (form_y q) (form_turned (step_quat w) o)
unfolding dot_of axial mixed_sum mixed_difference stepped_of spun_a spun_b spun_c spun_d opposite
product-y q w o = identity (letters q w o) (with_stepped y_term (var 7) (var 8) (var 9)) (on_step (with_quat y_term)) refl

product-z : (q : Quat) (w o : Wide3) → dot_of (form_z (stepped_of q w)) o ≡ dot_of (form_z q) (form_turned (step_quat w) o)
unfolding dot_of axial mixed_sum mixed_difference stepped_of spun_a spun_b spun_c spun_d opposite
product-z q w o = identity (letters q w o) (with_stepped z_term (var 7) (var 8) (var 9)) (on_step (with_quat z_term)) refl

-- the stepped quaternion turns a vector as the step and then the quaternion do
pub product_law : (q : Quat) (w o : Wide3) → form_turned (stepped_of q w) o ≡ form_turned q (form_turned (step_quat w) o)
product_law q w o = λ i. record { x = product-x q w o i; y = product-y q w o i; z = product-z q w o i }

stepped_long : (q : Quat) (w : Wide3) → let t = stepped_of q w in t.a *ℤ t.a +ℤ t.b *ℤ t.b +ℤ t.c *ℤ t.c +ℤ t.d *ℤ t.d
    ≡ (q.a *ℤ q.a +ℤ q.b *ℤ q.b +ℤ q.c *ℤ q.c +ℤ q.d *ℤ q.d) *ℤ (pos (2 ^ 31) *ℤ pos (2 ^ 31) +ℤ w.x *ℤ w.x +ℤ w.y *ℤ w.y +ℤ w.z *ℤ w.z)
unfolding stepped_of spun_a spun_b spun_c spun_d opposite
stepped_long q w = identity (letters q w w)
    (quat_norm2_term
    (stepped_a (var 10) (var 0) (var 1) (var 2) (var 3) (var 4) (var 5) (var 6))
    (stepped_b (var 10) (var 0) (var 1) (var 2) (var 3) (var 4) (var 5) (var 6))
    (stepped_c (var 10) (var 0) (var 1) (var 2) (var 3) (var 4) (var 5) (var 6))
    (stepped_d (var 10) (var 0) (var 1) (var 2) (var 3) (var 4) (var 5) (var 6)))
    (times (quat_norm2_term (var 0) (var 1) (var 2) (var 3)) (quat_norm2_term (var 10) (var 4) (var 5) (var 6)))
    refl

-- the squared length of the stepped quaternion is the product of those of the quaternion and of the step
pub stepped_norm2 : (q : Quat) (w : Wide3) → quat_norm2_of (stepped_of q w) ≡ quat_norm2_of q * step_norm2_of w
stepped_norm2 q w =
    ap unsigned_abs (quat_norm2-is (stepped_of q w) ∙ stepped_long q w ∙ ap₂ (λ m n. m *ℤ n) (sym (quat_norm2-is q)) (sym (quat_norm2-is (step_quat w))))

turned_long : (q : Quat) (o : Wide3) → let t = form_turned q o in t.x *ℤ t.x +ℤ t.y *ℤ t.y +ℤ t.z *ℤ t.z
    ≡ (let n = q.a *ℤ q.a +ℤ q.b *ℤ q.b +ℤ q.c *ℤ q.c +ℤ q.d *ℤ q.d in (n *ℤ n) *ℤ (o.x *ℤ o.x +ℤ o.y *ℤ o.y +ℤ o.z *ℤ o.z))
unfolding dot_of axial mixed_sum mixed_difference
turned_long q o = identity (letters q o o)
    (norm2_term (with_quat x_term (var 7) (var 8) (var 9)) (with_quat y_term (var 7) (var 8) (var 9)) (with_quat z_term (var 7) (var 8) (var 9)))
    (times (times (quat_norm2_term (var 0) (var 1) (var 2) (var 3)) (quat_norm2_term (var 0) (var 1) (var 2) (var 3))) (norm2_term (var 7) (var 8) (var 9)))
    refl

-- a turned vector is as long as the vector, times the square of the quaternion's length
pub length_law : (q : Quat) (o : Wide3) → norm2_of (form_turned q o) ≡ quat_norm2_of q * quat_norm2_of q * norm2_of o
length_law q o =
    ap unsigned_abs (norm2-is (form_turned q o) ∙ turned_long q o ∙ ap₂ (λ m n. (m *ℤ m) *ℤ n) (sym (quat_norm2-is q)) (sym (norm2-is o)))

-- how far a step moves a vector, where p is the square of the step's length
abbrev moved_by : ℤ → Wide3 → Wide3 → Wide3
moved_by p w o = difference_of (form_turned (step_quat w) o) (scaled p o)

-- the same as a term, where the square of the step's length is written out
abbrev moved_term : Term → Term → Term
moved_term row own = minus row (times (quat_norm2_term (var 10) (var 4) (var 5) (var 6)) own)

abbrev on_moved : (Term → Term → Term → Term) → Term
on_moved f =
    f (moved_term (with_step x_term (var 7) (var 8) (var 9)) (var 7))
    (moved_term (with_step y_term (var 7) (var 8) (var 9)) (var 8))
    (moved_term (with_step z_term (var 7) (var 8) (var 9)) (var 9))

abbrev on_cross : (Term → Term → Term → Term) → Term
on_cross f = f (turn_term (var 5) (var 9) (var 6) (var 8)) (turn_term (var 6) (var 7) (var 4) (var 9)) (turn_term (var 4) (var 8) (var 5) (var 7))

-- the square of the step's length, written out
abbrev step_square : Wide3 → ℤ
step_square w = pos (2 ^ 31) *ℤ pos (2 ^ 31) +ℤ w.x *ℤ w.x +ℤ w.y *ℤ w.y +ℤ w.z *ℤ w.z

moved_long : (w o : Wide3) (p : ℤ) → p ≡ step_square w → let e = moved_by p w o in let c = cross_of w o in
    e.x *ℤ e.x +ℤ e.y *ℤ e.y +ℤ e.z *ℤ e.z ≡ pos 4 *ℤ (p *ℤ (c.x *ℤ c.x +ℤ c.y *ℤ c.y +ℤ c.z *ℤ c.z))
unfolding dot_of axial mixed_sum mixed_difference turn_product
moved_long w o p e = rw e (identity (letters (step_quat w) w o) (on_moved norm2_term) (times (num (pos 4)) (times (quat_norm2_term (var 10) (var 4) (var 5) (var 6)) (on_cross norm2_term))) refl)

-- the parts along the axes of the cross product of spin and vector, as terms
abbrev cross_x : Term
cross_x = turn_term (var 5) (var 9) (var 6) (var 8)

abbrev cross_y : Term
cross_y = turn_term (var 6) (var 7) (var 4) (var 9)

abbrev cross_z : Term
cross_z = turn_term (var 4) (var 8) (var 5) (var 7)

-- 2^32 times the one, and twice the other
abbrev parts_term : Term → Term → Term
parts_term once again = plus (times (num (pos (2 ^ 32))) once) (times (num (pos 2)) again)

-- what a step moves a component by, with the step's length as a number
abbrev moved_number : (Term → Term → Term → Term → Term → Term → Term → Term) → Term → Term
moved_number row own =
    minus (row (num (pos (2 ^ 31))) (var 4) (var 5) (var 6) (var 7) (var 8) (var 9)) (times (quat_norm2_term (num (pos (2 ^ 31))) (var 4) (var 5) (var 6)) own)

moved-x : (w o : Wide3) (p : ℤ) → p ≡ step_square w → (moved_by p w o).x ≡ pos (2 ^ 32) *ℤ (cross_of w o).x +ℤ pos 2 *ℤ (cross_of w (cross_of w o)).x
unfolding dot_of axial mixed_sum mixed_difference turn_product
moved-x w o p e = rw e (identity (letters (step_quat w) w o) (moved_number x_term (var 7)) (parts_term cross_x (turn_term (var 5) cross_z (var 6) cross_y)) refl)

moved-y : (w o : Wide3) (p : ℤ) → p ≡ step_square w → (moved_by p w o).y ≡ pos (2 ^ 32) *ℤ (cross_of w o).y +ℤ pos 2 *ℤ (cross_of w (cross_of w o)).y
unfolding dot_of axial mixed_sum mixed_difference turn_product
moved-y w o p e = rw e (identity (letters (step_quat w) w o) (moved_number y_term (var 8)) (parts_term cross_y (turn_term (var 6) cross_x (var 4) cross_z)) refl)

moved-z : (w o : Wide3) (p : ℤ) → p ≡ step_square w → (moved_by p w o).z ≡ pos (2 ^ 32) *ℤ (cross_of w o).z +ℤ pos 2 *ℤ (cross_of w (cross_of w o)).z
unfolding dot_of axial mixed_sum mixed_difference turn_product
moved-z w o p e = rw e (identity (letters (step_quat w) w o) (moved_number z_term (var 9)) (parts_term cross_z (turn_term (var 4) cross_y (var 5) cross_x)) refl)

-- what one step of spin moves a vector by
pub swing_parts : (w o : Wide3) → swing_of w o ≡ sum_of (scaled (pos (2 ^ 32)) (cross_of w o)) (scaled (pos 2) (cross_of w (cross_of w o)))
swing_parts w o =
    let p = pos (step_norm2_of w) in
    let e : p ≡ step_square w = quat_norm2-is (step_quat w) in
    λ i. record { x = moved-x w o p e i; y = moved-y w o p e i; z = moved-z w o p e i }

-- how far one step of spin moves a vector: twice the step's length times the cross product, squared
pub turn_law : (w o : Wide3) → norm2_of (swing_of w o) ≡ 4 * (step_norm2_of w * norm2_of (cross_of w o))
turn_law w o = ap unsigned_abs (norm2-is (swing_of w o) ∙ moved_long w o (pos (step_norm2_of w)) (quat_norm2-is (step_quat w)) ∙ ap (λ n. pos 4 *ℤ (pos (step_norm2_of w) *ℤ n)) (sym (norm2-is (cross_of w o))))

cross_long : (w o : Wide3) → let c = cross_of w o in (c.x *ℤ c.x +ℤ c.y *ℤ c.y +ℤ c.z *ℤ c.z) +ℤ dot_of w o *ℤ dot_of w o
    ≡ (w.x *ℤ w.x +ℤ w.y *ℤ w.y +ℤ w.z *ℤ w.z) *ℤ (o.x *ℤ o.x +ℤ o.y *ℤ o.y +ℤ o.z *ℤ o.z)
unfolding dot_of turn_product
cross_long w o = identity (letters (step_quat w) w o)
    (plus (on_cross norm2_term) (square (dot_term (var 4) (var 5) (var 6) (var 7) (var 8) (var 9))))
    (times (norm2_term (var 4) (var 5) (var 6)) (norm2_term (var 7) (var 8) (var 9)))
    refl

cross-norm2 : (w o : Wide3) → norm2_of (cross_of w o) + square_of (dot_of w o) ≡ norm2_of w * norm2_of o
cross-norm2 w o = ap unsigned_abs (ap₂ (λ m n. m +ℤ n) (norm2-is (cross_of w o)) (square-is (dot_of w o)) ∙ cross_long w o ∙ ap₂ (λ m n. m *ℤ n) (sym (norm2-is w)) (sym (norm2-is o)))

-- a cross product is at most as long as the product of the lengths
pub cross_le : (w o : Wide3) → norm2_of (cross_of w o) ≤ norm2_of w * norm2_of o
cross_le w o = let e : norm2_of (cross_of w o) + square_of (dot_of w o) ≡ norm2_of w * norm2_of o = cross-norm2 w o in omega arith
