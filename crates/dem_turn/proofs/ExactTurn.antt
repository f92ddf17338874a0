-- How far a step of spin turns a vector, before the quaternion is brought back to length one and before anything is rounded.
use Rattle.std.proofs.Common.{◌≡◌, ℕ, ◌*◌, ◌^◌, ◌≤◌, ℤ, pos, ◌-ℤ◌, ◌*ℤ◌, unsigned_abs, [], ◌∷◌, arith, refl, ap, ◌∙◌}
use Rattle.std.proofs.lemmas.Nat.{mul-le}
use Rattle.dem_num.specs.declared.vector.Wide3.{Wide3}
use Rattle.dem_num.specs.declared.vector.Quat.{Quat}
use Rattle.dem_num.specs.Vectors.{Within, difference_of, scaled, dot_of, cross_of, norm2_of}
use Rattle.dem_num.specs.Rotations.{quat_norm2_of, stepped_of}
use Rattle.dem_num.proofs.ProductBounds.{le_from_squares}
use Rattle.dem_num.proofs.VectorSizes.{norm2_le}
use Rattle.dem_turn.specs.Forms.{form_x, form_y, form_z, form_turned, step_quat, step_norm2_of, swing_of}
use Rattle.dem_turn.proofs.Identity.{Term, var, minus, times, identity}
use Rattle.dem_turn.proofs.FormTerms.{dot_term}
use Rattle.dem_turn.proofs.TurnLaws.{product_law, length_law, turn_law, cross_le}

abbrev row : Term → Term → Term → Term
row u v w = dot_term (var 0) (var 1) (var 2) u v w

-- a row on the vector that is left where p times another was taken away
row_less : (r g o : Wide3) (p : ℤ) → dot_of r g -ℤ p *ℤ dot_of r o ≡ dot_of r (difference_of g (scaled p o))
unfolding dot_of
row_less r g o p = identity (r.x ∷ r.y ∷ r.z ∷ g.x ∷ g.y ∷ g.z ∷ o.x ∷ o.y ∷ o.z ∷ p ∷ [])
    (minus (row (var 3) (var 4) (var 5)) (times (var 9) (row (var 6) (var 7) (var 8))))
    (row (minus (var 3) (times (var 9) (var 6))) (minus (var 4) (times (var 9) (var 7))) (minus (var 5) (times (var 9) (var 8))))
    refl

-- what the stepped quaternion does to a vector beyond the quaternion: it turns by the quaternion what the step moves
pub exact_turn_law : (q : Quat) (w o : Wide3)
    → difference_of (form_turned (stepped_of q w) o) (scaled (pos (step_norm2_of w)) (form_turned q o)) ≡ form_turned q (swing_of w o)
exact_turn_law q w o =
    let p = pos (step_norm2_of w) in
    let g = form_turned (step_quat w) o in
    ap (λ t. difference_of t (scaled p (form_turned q o))) (product_law q w o)
    ∙ (λ i. record { x = row_less (form_x q) g o p i; y = row_less (form_y q) g o p i; z = row_less (form_z q) g o p i })

swing_norm2 : (q : Quat) (w o : Wide3) → norm2_of (form_turned q (swing_of w o)) ≡ quat_norm2_of q * quat_norm2_of q * (4 * (step_norm2_of w * norm2_of (cross_of w o)))
swing_norm2 q w o = length_law q (swing_of w o) ∙ ap (λ n. quat_norm2_of q * quat_norm2_of q * n) (turn_law w o)

-- what the step moves, turned by the quaternion, is at most this long
pub exact_turn_le : (q : Quat) (w o : Wide3) → norm2_of (form_turned q (swing_of w o)) ≤ quat_norm2_of q * quat_norm2_of q * (4 * (step_norm2_of w * (norm2_of w * norm2_of o)))
exact_turn_le q w o =
    let n = quat_norm2_of q in
    let p = step_norm2_of w in
    let c = norm2_of (cross_of w o) in
    let area = norm2_of w * norm2_of o in
    let e : norm2_of (form_turned q (swing_of w o)) ≡ n * n * (4 * (p * c)) = swing_norm2 q w o in
    let times_p : p * c ≤ p * area = mul-le p c p area (omega arith) (cross_le w o) in
    let times_n : (n * n) * (p * c) ≤ (n * n) * (p * area) = mul-le (n * n) (p * c) (n * n) (p * area) (omega arith) times_p in
    omega arith

exact_small : (e n p c ww oo spin arm : ℕ) → e * e ≤ n * n * (4 * (p * c)) → c ≤ ww * oo → 2 ^ 62 ≤ p → ww ≤ 3 * (spin * spin) → oo ≤ arm * arm
    → 2 ^ 30 * e ≤ 2 * ((n * p) * (spin * arm))
exact_small e n p c ww oo spin arm he hc hp hw ho =
    let area = (spin * arm) * (spin * arm) in
    let lengths : ww * oo ≤ (3 * (spin * spin)) * (arm * arm) = mul-le ww oo (3 * (spin * spin)) (arm * arm) hw ho in
    let cross : c ≤ 3 * area = omega arith in
    let times_p : p * c ≤ p * (3 * area) = mul-le p c p (3 * area) (omega arith) cross in
    let times_n : (n * n) * (p * c) ≤ (n * n) * (p * (3 * area)) = mul-le (n * n) (p * c) (n * n) (p * (3 * area)) (omega arith) times_p in
    let long : 2 ^ 62 * (p * area) ≤ p * (p * area) = mul-le (2 ^ 62) (p * area) p (p * area) hp (omega arith) in
    let long_n : (n * n) * (2 ^ 62 * (p * area)) ≤ (n * n) * (p * (p * area)) = mul-le (n * n) (2 ^ 62 * (p * area)) (n * n) (p * (p * area)) (omega arith) long in
    le_from_squares (2 ^ 30 * e) (2 * ((n * p) * (spin * arm))) (omega arith)

-- a vector's components are at most as long as the vector
square_x : (a : Wide3) → unsigned_abs a.x * unsigned_abs a.x ≤ norm2_of a
unfolding norm2_of
square_x a = omega arith

square_y : (a : Wide3) → unsigned_abs a.y * unsigned_abs a.y ≤ norm2_of a
unfolding norm2_of
square_y a = omega arith

square_z : (a : Wide3) → unsigned_abs a.z * unsigned_abs a.z ≤ norm2_of a
unfolding norm2_of
square_z a = omega arith

-- a step is long
pub step_long : (w : Wide3) → 2 ^ 62 ≤ step_norm2_of w
unfolding quat_norm2_of
step_long w = omega arith

part_small : (q : Quat) (w o : Wide3) (e spin arm : ℕ) → e * e ≤ norm2_of (form_turned q (swing_of w o)) → Within w spin → norm2_of o ≤ arm * arm
    → 2 ^ 30 * e ≤ 2 * ((quat_norm2_of q * step_norm2_of w) * (spin * arm))
part_small q w o e spin arm he hw ho =
    exact_small e (quat_norm2_of q) (step_norm2_of w) (norm2_of (cross_of w o)) (norm2_of w) (norm2_of o) spin arm
    (rw (← swing_norm2 q w o) he) (cross_le w o) (step_long w) (norm2_le w spin hw) ho

-- each component of what the step moves, turned by the quaternion, is small
pub record SwingSmall (a : Wide3) (m : ℕ) : Type 0 where
  pub x : 2 ^ 30 * unsigned_abs a.x ≤ m
  pub y : 2 ^ 30 * unsigned_abs a.y ≤ m
  pub z : 2 ^ 30 * unsigned_abs a.z ≤ m

-- a step of a small spin moves a short vector little
pub exact_turn_small : (q : Quat) (w o : Wide3) (spin arm : ℕ) → Within w spin → norm2_of o ≤ arm * arm
    → SwingSmall (form_turned q (swing_of w o)) (2 * ((quat_norm2_of q * step_norm2_of w) * (spin * arm)))
exact_turn_small q w o spin arm hw ho =
    let e = form_turned q (swing_of w o) in
    record {
      x = part_small q w o (unsigned_abs e.x) spin arm (square_x e) hw ho;
      y = part_small q w o (unsigned_abs e.y) spin arm (square_y e) hw ho;
      z = part_small q w o (unsigned_abs e.z) spin arm (square_z e) hw ho;
    }
