-- The forms of rotations, as terms of polynomials.
use Rattle.std.proofs.Common.{pos}
use Rattle.dem_turn.proofs.Identity.{Term, num, negated, plus, minus, times}

-- a square
abbrev pub square : Term → Term
square a = times a a

-- a form on the diagonal
abbrev pub axial_term : Term → Term → Term → Term → Term
axial_term a own other third = minus (minus (plus (square a) (square own)) (square other)) (square third)

-- a form off the diagonal, where the products are summed
abbrev pub mixed_sum_term : Term → Term → Term → Term → Term
mixed_sum_term u v s t = times (num (pos 2)) (plus (times u v) (times s t))

-- a form off the diagonal, where the second product is taken away
abbrev pub mixed_difference_term : Term → Term → Term → Term → Term
mixed_difference_term u v s t = times (num (pos 2)) (minus (times u v) (times s t))

-- the sum of three products
abbrev pub dot_term : Term → Term → Term → Term → Term → Term → Term
dot_term f g h u v w = plus (plus (times f u) (times g v)) (times h w)

-- the first row of the forms of a quaternion, on a vector
abbrev pub x_term : Term → Term → Term → Term → Term → Term → Term → Term
x_term a b c d u v w = dot_term (axial_term a b c d) (mixed_difference_term b c a d) (mixed_sum_term b d a c) u v w

-- the second row
abbrev pub y_term : Term → Term → Term → Term → Term → Term → Term → Term
y_term a b c d u v w = dot_term (mixed_sum_term b c a d) (axial_term a c b d) (mixed_difference_term c d a b) u v w

-- the third row
abbrev pub z_term : Term → Term → Term → Term → Term → Term → Term → Term
z_term a b c d u v w = dot_term (mixed_difference_term b d a c) (mixed_sum_term c d a b) (axial_term a d b c) u v w

-- the sum of three squares
abbrev pub norm2_term : Term → Term → Term → Term
norm2_term u v w = plus (plus (square u) (square v)) (square w)

-- the sum of four squares
abbrev pub quat_norm2_term : Term → Term → Term → Term → Term
quat_norm2_term a b c d = plus (plus (plus (square a) (square b)) (square c)) (square d)

-- a difference of two products
abbrev pub turn_term : Term → Term → Term → Term → Term
turn_term a b c d = minus (times a b) (times c d)

-- a quaternion after a step of spin: its real part
abbrev pub stepped_a : Term → Term → Term → Term → Term → Term → Term → Term → Term
stepped_a s a b c d x y z = plus (times s a) (minus (minus (negated (times b x)) (times c y)) (times d z))

-- its part along x
abbrev pub stepped_b : Term → Term → Term → Term → Term → Term → Term → Term → Term
stepped_b s a b c d x y z = plus (times s b) (minus (plus (times a x) (times c z)) (times d y))

-- its part along y
abbrev pub stepped_c : Term → Term → Term → Term → Term → Term → Term → Term → Term
stepped_c s a b c d x y z = plus (times s c) (minus (plus (times a y) (times d x)) (times b z))

-- its part along z
abbrev pub stepped_d : Term → Term → Term → Term → Term → Term → Term → Term → Term
stepped_d s a b c d x y z = plus (times s d) (minus (plus (times a z) (times b y)) (times c x))
