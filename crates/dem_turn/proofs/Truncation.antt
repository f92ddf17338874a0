-- A quaternion brought to length one stands for nearly the same rotation.
use Rattle.std.proofs.Common.{◌≡◌, ℕ, ◌+◌, ◌-◌, ◌*◌, ◌^◌, ◌<◌, ◌≤◌, ℤ, pos, ◌+ℤ◌, ◌-ℤ◌, ◌*ℤ◌, unsigned_abs, [], ◌∷◌, arith, refl, sym, ap, subst, subst₂}
use Rattle.std.proofs.lemmas.Int.{ints, unsigned_abs-mul}
use Rattle.std.proofs.lemmas.Nat.{mul-le, mul-lt}
use Rattle.dem_num.specs.declared.vector.Quat.{Quat}
use Rattle.dem_num.specs.Numbers.{IsRoot, root_of, square_of, quotient}
use Rattle.dem_num.specs.Rotations.{quat_norm2_of, axial, mixed_sum, mixed_difference, unit_quat_of}
use Rattle.dem_num.proofs.ProductBounds.{drop_factor, lt_from_squares, two_products_le}
use Rattle.dem_num.proofs.RootFacts.{root_of-is_root, root_positive}
use Rattle.dem_turn.specs.Forms.{apart, FormsClose}
use Rattle.dem_turn.proofs.Identity.{var, minus, times, identity}
use Rattle.dem_turn.proofs.Near.{quotient_near}
use Rattle.dem_turn.proofs.FormGaps.{IsPart, gap_of, scaled_gap, axial-gap_le, norm2-gap_le, mixed_sum-gap_le, mixed_difference-gap_le}
use Rattle.dem_turn.proofs.TurnLaws.{quat_norm2-is}

-- the sum of the squares of four numbers, and that of their sizes
abbrev squares : ℤ → ℤ → ℤ → ℤ → ℕ
squares e f g h = square_of e + square_of f + square_of g + square_of h

abbrev sizes : ℤ → ℤ → ℤ → ℤ → ℕ
sizes e f g h = unsigned_abs e + unsigned_abs f + unsigned_abs g + unsigned_abs h

four_sizes : (a b c d r n : ℕ) → n ≡ a * a + b * b + c * c + d * d → n < (r + 1) * (r + 1) → a + b + c + d ≤ 2 * r + 1
four_sizes a b c d r n e h =
    let ab : 2 * (a * b) ≤ a * a + b * b = two_products_le a b in
    let ac : 2 * (a * c) ≤ a * a + c * c = two_products_le a c in
    let ad : 2 * (a * d) ≤ a * a + d * d = two_products_le a d in
    let bc : 2 * (b * c) ≤ b * b + c * c = two_products_le b c in
    let bd : 2 * (b * d) ≤ b * b + d * d = two_products_le b d in
    let cd : 2 * (c * d) ≤ c * c + d * d = two_products_le c d in
    let below : a + b + c + d < 2 * (r + 1) = lt_from_squares (a + b + c + d) (2 * (r + 1)) (omega arith) in
    omega arith

-- a square's size
square-size : (e : ℤ) → unsigned_abs (e *ℤ e) ≡ square_of e
square-size e = unsigned_abs-mul e e

axial_le : (e f g h : ℤ) → unsigned_abs (axial e f g h) ≤ squares e f g h
unfolding axial
axial_le e f g h =
    let a : unsigned_abs (e *ℤ e) ≡ square_of e = square-size e in
    let b : unsigned_abs (f *ℤ f) ≡ square_of f = square-size f in
    let c : unsigned_abs (g *ℤ g) ≡ square_of g = square-size g in
    let d : unsigned_abs (h *ℤ h) ≡ square_of h = square-size h in
    let l : unsigned_abs (e *ℤ e +ℤ f *ℤ f -ℤ g *ℤ g -ℤ h *ℤ h) ≤ unsigned_abs (e *ℤ e) + unsigned_abs (f *ℤ f) + unsigned_abs (g *ℤ g) + unsigned_abs (h *ℤ h) = omega (arith, ints) in
    omega arith

twice-size : (x : ℤ) → unsigned_abs (pos 2 *ℤ x) ≡ 2 * unsigned_abs x
twice-size x = unsigned_abs-mul (pos 2) x

sum_size : (x y : ℤ) → unsigned_abs (x +ℤ y) ≤ unsigned_abs x + unsigned_abs y
sum_size x y = omega (arith, ints)

difference_size : (x y : ℤ) → unsigned_abs (x -ℤ y) ≤ unsigned_abs x + unsigned_abs y
difference_size x y = omega (arith, ints)

mixed_sum_le : (e f g h : ℤ) → unsigned_abs (mixed_sum e f g h) ≤ squares e f g h
unfolding mixed_sum
mixed_sum_le e f g h =
    let twice : unsigned_abs (pos 2 *ℤ (e *ℤ f +ℤ g *ℤ h)) ≡ 2 * unsigned_abs (e *ℤ f +ℤ g *ℤ h) = twice-size (e *ℤ f +ℤ g *ℤ h) in
    let both : unsigned_abs (e *ℤ f +ℤ g *ℤ h) ≤ unsigned_abs (e *ℤ f) + unsigned_abs (g *ℤ h) = sum_size (e *ℤ f) (g *ℤ h) in
    let first : unsigned_abs (e *ℤ f) ≡ unsigned_abs e * unsigned_abs f = unsigned_abs-mul e f in
    let second : unsigned_abs (g *ℤ h) ≡ unsigned_abs g * unsigned_abs h = unsigned_abs-mul g h in
    let a : 2 * (unsigned_abs e * unsigned_abs f) ≤ square_of e + square_of f = two_products_le (unsigned_abs e) (unsigned_abs f) in
    let b : 2 * (unsigned_abs g * unsigned_abs h) ≤ square_of g + square_of h = two_products_le (unsigned_abs g) (unsigned_abs h) in
    omega arith

mixed_difference_le : (e f g h : ℤ) → unsigned_abs (mixed_difference e f g h) ≤ squares e f g h
unfolding mixed_difference
mixed_difference_le e f g h =
    let twice : unsigned_abs (pos 2 *ℤ (e *ℤ f -ℤ g *ℤ h)) ≡ 2 * unsigned_abs (e *ℤ f -ℤ g *ℤ h) = twice-size (e *ℤ f -ℤ g *ℤ h) in
    let both : unsigned_abs (e *ℤ f -ℤ g *ℤ h) ≤ unsigned_abs (e *ℤ f) + unsigned_abs (g *ℤ h) = difference_size (e *ℤ f) (g *ℤ h) in
    let first : unsigned_abs (e *ℤ f) ≡ unsigned_abs e * unsigned_abs f = unsigned_abs-mul e f in
    let second : unsigned_abs (g *ℤ h) ≡ unsigned_abs g * unsigned_abs h = unsigned_abs-mul g h in
    let a : 2 * (unsigned_abs e * unsigned_abs f) ≤ square_of e + square_of f = two_products_le (unsigned_abs e) (unsigned_abs f) in
    let b : 2 * (unsigned_abs g * unsigned_abs h) ≤ square_of g + square_of h = two_products_le (unsigned_abs g) (unsigned_abs h) in
    omega arith

-- a square of a number times how far two forms over squared lengths are apart
apart-split : (r m t p h g : ℤ) → (r *ℤ r) *ℤ (h *ℤ t -ℤ g *ℤ p) ≡ ((r *ℤ r) *ℤ h -ℤ (m *ℤ m) *ℤ g) *ℤ t -ℤ g *ℤ ((r *ℤ r) *ℤ p -ℤ (m *ℤ m) *ℤ t)
apart-split r m t p h g = identity (r ∷ m ∷ t ∷ p ∷ h ∷ g ∷ [])
    (times (times (var 0) (var 0)) (minus (times (var 4) (var 2)) (times (var 5) (var 3))))
    (minus (times (minus (times (times (var 0) (var 0)) (var 4)) (times (times (var 1) (var 1)) (var 5))) (var 2)) (times (var 5) (minus (times (times (var 0) (var 0)) (var 3)) (times (times (var 1) (var 1)) (var 2)))))
    refl

apart_core : (r m t p : ℕ) (h g : ℤ) (gap : ℕ) → unsigned_abs (scaled_gap r m h g) ≤ gap → unsigned_abs (scaled_gap r m (pos p) (pos t)) ≤ gap → unsigned_abs g ≤ t
    → (r * r) * apart h p g t ≤ 2 * (gap * t)
apart_core r m t p h g gap hh hp hg =
    let x = h *ℤ pos t -ℤ g *ℤ pos p in
    let size : unsigned_abs ((pos r *ℤ pos r) *ℤ x) ≡ (r * r) * unsigned_abs x = unsigned_abs-mul (pos r *ℤ pos r) x in
    let split : unsigned_abs ((pos r *ℤ pos r) *ℤ x) ≡ unsigned_abs (scaled_gap r m h g *ℤ pos t -ℤ g *ℤ scaled_gap r m (pos p) (pos t)) = ap unsigned_abs (apart-split (pos r) (pos m) (pos t) (pos p) h g) in
    let both : unsigned_abs (scaled_gap r m h g *ℤ pos t -ℤ g *ℤ scaled_gap r m (pos p) (pos t)) ≤ unsigned_abs (scaled_gap r m h g *ℤ pos t) + unsigned_abs (g *ℤ scaled_gap r m (pos p) (pos t)) =
    difference_size (scaled_gap r m h g *ℤ pos t) (g *ℤ scaled_gap r m (pos p) (pos t)) in
    let first : unsigned_abs (scaled_gap r m h g *ℤ pos t) ≡ unsigned_abs (scaled_gap r m h g) * t = unsigned_abs-mul (scaled_gap r m h g) (pos t) in
    let second : unsigned_abs (g *ℤ scaled_gap r m (pos p) (pos t)) ≡ unsigned_abs g * unsigned_abs (scaled_gap r m (pos p) (pos t)) = unsigned_abs-mul g (scaled_gap r m (pos p) (pos t)) in
    let a : unsigned_abs (scaled_gap r m h g) * t ≤ gap * t = mul-le (unsigned_abs (scaled_gap r m h g)) t gap t hh (omega arith) in
    let b : unsigned_abs g * unsigned_abs (scaled_gap r m (pos p) (pos t)) ≤ t * gap = mul-le (unsigned_abs g) (unsigned_abs (scaled_gap r m (pos p) (pos t))) t gap hg hp in
    omega arith

-- the length of the quaternion brought to length one
long_enough : (r s t p : ℕ) → 0 < r → s ≤ 2 * r + 1 → r * r ≤ t → 2 ^ 60 * t ≤ (r * r) * p + r * (2 * (2 ^ 30 * s)) → 2 ^ 60 ≤ p + 3 * 2 ^ 31
long_enough r s t p hr hs ht hp =
    let few : r * s ≤ r * (3 * r) = mul-le r s r (3 * r) (omega arith) (omega arith) in
    let some : 0 < r * r = mul-lt 0 0 r r hr hr in
    drop_factor (2 ^ 60) (p + 3 * 2 ^ 31) (r * r) (omega arith) some

apart_end : (r s t p x : ℕ) → 0 < r → s ≤ 2 * r + 1 → 2 ^ 60 ≤ p + 3 * 2 ^ 31 → (r * r) * x ≤ 2 * ((r * (2 * (2 ^ 30 * s))) * t) → 2 ^ 30 * x ≤ 13 * (p * t)
apart_end r s t p x hr hs hp hx =
    let few : r * s ≤ r * (3 * r) = mul-le r s r (3 * r) (omega arith) (omega arith) in
    let few_t : (r * s) * t ≤ (r * (3 * r)) * t = mul-le (r * s) t (r * (3 * r)) t few (omega arith) in
    let some : 0 < r * r = mul-lt 0 0 r r hr hr in
    let small : x ≤ 12 * (2 ^ 30 * t) = drop_factor x (12 * (2 ^ 30 * t)) (r * r) (omega arith) some in
    let long : (2 ^ 60 - 3 * 2 ^ 31) * t ≤ p * t = mul-le (2 ^ 60 - 3 * 2 ^ 31) t p t (omega arith) (omega arith) in
    omega arith

-- what is known of a quaternion brought to length one: r is the old length, s the sum of the old components' sizes, p and t the squared lengths
record IsRatio (r s p t : ℕ) : Type 0 where
  some : 0 < r
  sizes_small : s ≤ 2 * r + 1
  long : 2 ^ 60 ≤ p + 3 * 2 ^ 31
  gap : unsigned_abs (scaled_gap r (2 ^ 30) (pos p) (pos t)) ≤ r * (2 * (2 ^ 30 * s))

form_close : (r s p t : ℕ) (h g : ℤ) → IsRatio r s p t → unsigned_abs (scaled_gap r (2 ^ 30) h g) ≤ r * (2 * (2 ^ 30 * s)) → unsigned_abs g ≤ t → 2 ^ 30 * apart h p g t ≤ 13 * (p * t)
form_close r s p t h g k hh hg = apart_end r s t p (apart h p g t) k.some k.sizes_small k.long (apart_core r (2 ^ 30) t p h g (r * (2 * (2 ^ 30 * s))) hh k.gap hg)

axial_close : (r s p t : ℕ) (a b c d e f g h : ℤ) → IsRatio r s p t
    → IsPart r (2 ^ 30) a e → IsPart r (2 ^ 30) b f → IsPart r (2 ^ 30) c g → IsPart r (2 ^ 30) d h → sizes e f g h ≡ s → squares e f g h ≡ t
    → 2 ^ 30 * apart (axial a b c d) p (axial e f g h) t ≤ 13 * (p * t)
axial_close r s p t a b c d e f g h k pa pb pc pd es et =
    form_close r s p t (axial a b c d) (axial e f g h) k
    (subst (λ (n : ℕ). unsigned_abs (scaled_gap r (2 ^ 30) (axial a b c d) (axial e f g h)) ≤ r * (2 * (2 ^ 30 * n))) es (axial-gap_le r (2 ^ 30) a b c d e f g h pa pb pc pd))
    (subst (λ (n : ℕ). unsigned_abs (axial e f g h) ≤ n) et (axial_le e f g h))

mixed_sum_close : (r s p t : ℕ) (a b c d e f g h : ℤ) → IsRatio r s p t
    → IsPart r (2 ^ 30) a e → IsPart r (2 ^ 30) b f → IsPart r (2 ^ 30) c g → IsPart r (2 ^ 30) d h → sizes f e h g ≡ s → squares e f g h ≡ t
    → 2 ^ 30 * apart (mixed_sum a b c d) p (mixed_sum e f g h) t ≤ 13 * (p * t)
mixed_sum_close r s p t a b c d e f g h k pa pb pc pd es et =
    form_close r s p t (mixed_sum a b c d) (mixed_sum e f g h) k
    (subst (λ (n : ℕ). unsigned_abs (scaled_gap r (2 ^ 30) (mixed_sum a b c d) (mixed_sum e f g h)) ≤ r * (2 * (2 ^ 30 * n))) es (mixed_sum-gap_le r (2 ^ 30) a b c d e f g h pa pb pc pd))
    (subst (λ (n : ℕ). unsigned_abs (mixed_sum e f g h) ≤ n) et (mixed_sum_le e f g h))

mixed_difference_close : (r s p t : ℕ) (a b c d e f g h : ℤ) → IsRatio r s p t
    → IsPart r (2 ^ 30) a e → IsPart r (2 ^ 30) b f → IsPart r (2 ^ 30) c g → IsPart r (2 ^ 30) d h → sizes f e h g ≡ s → squares e f g h ≡ t
    → 2 ^ 30 * apart (mixed_difference a b c d) p (mixed_difference e f g h) t ≤ 13 * (p * t)
mixed_difference_close r s p t a b c d e f g h k pa pb pc pd es et =
    form_close r s p t (mixed_difference a b c d) (mixed_difference e f g h) k
    (subst (λ (n : ℕ). unsigned_abs (scaled_gap r (2 ^ 30) (mixed_difference a b c d) (mixed_difference e f g h)) ≤ r * (2 * (2 ^ 30 * n))) es (mixed_difference-gap_le r (2 ^ 30) a b c d e f g h pa pb pc pd))
    (subst (λ (n : ℕ). unsigned_abs (mixed_difference e f g h) ≤ n) et (mixed_difference_le e f g h))

-- the components of one quaternion are those of another over r, times 2^30
record AreParts (r : ℕ) (p t : Quat) : Type 0 where
  a : IsPart r (2 ^ 30) p.a t.a
  b : IsPart r (2 ^ 30) p.b t.b
  c : IsPart r (2 ^ 30) p.c t.c
  d : IsPart r (2 ^ 30) p.d t.d

forms_close : (r s : ℕ) (p t : Quat) → IsRatio r s (quat_norm2_of p) (quat_norm2_of t) → AreParts r p t → sizes t.a t.b t.c t.d ≡ s → squares t.a t.b t.c t.d ≡ quat_norm2_of t → FormsClose p t
forms_close r s p t k h es et =
    let m = quat_norm2_of p in
    let n = quat_norm2_of t in
    record {
      x = record {
        x = axial_close r s m n p.a p.b p.c p.d t.a t.b t.c t.d k h.a h.b h.c h.d es et;
        y = mixed_difference_close r s m n p.b p.c p.a p.d t.b t.c t.a t.d k h.b h.c h.a h.d (omega arith) (omega arith);
        z = mixed_sum_close r s m n p.b p.d p.a p.c t.b t.d t.a t.c k h.b h.d h.a h.c (omega arith) (omega arith);
      };
      y = record {
        x = mixed_sum_close r s m n p.b p.c p.a p.d t.b t.c t.a t.d k h.b h.c h.a h.d (omega arith) (omega arith);
        y = axial_close r s m n p.a p.c p.b p.d t.a t.c t.b t.d k h.a h.c h.b h.d (omega arith) (omega arith);
        z = mixed_difference_close r s m n p.c p.d p.a p.b t.c t.d t.a t.b k h.c h.d h.a h.b (omega arith) (omega arith);
      };
      z = record {
        x = mixed_difference_close r s m n p.b p.d p.a p.c t.b t.d t.a t.c k h.b h.d h.a h.c (omega arith) (omega arith);
        y = mixed_sum_close r s m n p.c p.d p.a p.b t.c t.d t.a t.b k h.c h.d h.a h.b (omega arith) (omega arith);
        z = axial_close r s m n p.a p.d p.b p.c t.a t.d t.b t.c k h.a h.d h.b h.c (omega arith) (omega arith);
      };
    }

norm2_gap : (r : ℕ) (p t : Quat) → AreParts r p t → unsigned_abs (scaled_gap r (2 ^ 30) (pos (quat_norm2_of p)) (pos (quat_norm2_of t))) ≤ gap_of r (2 ^ 30) t.a t.b t.c t.d
norm2_gap r p t h =
    subst₂ (λ (u v : ℤ). unsigned_abs (scaled_gap r (2 ^ 30) u v) ≤ gap_of r (2 ^ 30) t.a t.b t.c t.d) (sym (quat_norm2-is p)) (sym (quat_norm2-is t))
    (norm2-gap_le r (2 ^ 30) p.a p.b p.c p.d t.a t.b t.c t.d h.a h.b h.c h.d)

from_gap : (r s p t : ℕ) → unsigned_abs (scaled_gap r (2 ^ 30) (pos p) (pos t)) ≤ r * (2 * (2 ^ 30 * s)) → 2 ^ 60 * t ≤ (r * r) * p + r * (2 * (2 ^ 30 * s))
from_gap r s p t h = omega (arith, ints)

ratio_of : (r s p t : ℕ) → 0 < r → IsRoot t r → s ≤ 2 * r + 1 → unsigned_abs (scaled_gap r (2 ^ 30) (pos p) (pos t)) ≤ r * (2 * (2 ^ 30 * s)) → IsRatio r s p t
ratio_of r s p t some root small gap = record { some = some; sizes_small = small; long = long_enough r s t p some small root.square_le (from_gap r s p t gap); gap = gap }

squares_sum : (t : Quat) → squares t.a t.b t.c t.d ≡ quat_norm2_of t
unfolding quat_norm2_of
squares_sum t = refl

-- a component over r, times 2^30
part_of : (r : ℕ) (e : ℤ) → 0 < r → IsPart r (2 ^ 30) (quotient (pos (2 ^ 30) *ℤ e) (pos r)) e
part_of r e some =
    let near = quotient_near (pos (2 ^ 30) *ℤ e) r some in
    record {
      less = near.close;
      more = let size : unsigned_abs (pos (2 ^ 30) *ℤ e) ≡ 2 ^ 30 * unsigned_abs e = unsigned_abs-mul (pos (2 ^ 30)) e in
          let sum : unsigned_abs (pos r *ℤ quotient (pos (2 ^ 30) *ℤ e) (pos r) +ℤ pos (2 ^ 30) *ℤ e) ≤ 2 * unsigned_abs (pos (2 ^ 30) *ℤ e) = near.sum_small in
          omega arith;
    }

parts_of : (t : Quat) → 0 < root_of (quat_norm2_of t) → AreParts (root_of (quat_norm2_of t)) (unit_quat_of t) t
unfolding unit_quat_of
parts_of t some = let r = root_of (quat_norm2_of t) in record { a = part_of r t.a some; b = part_of r t.b some; c = part_of r t.c some; d = part_of r t.d some }

-- what is known of a quaternion of some length, brought to length one
unit_ratio : (t : Quat) → 0 < quat_norm2_of t → IsRatio (root_of (quat_norm2_of t)) (sizes t.a t.b t.c t.d) (quat_norm2_of (unit_quat_of t)) (quat_norm2_of t)
unit_ratio t h =
    let r = root_of (quat_norm2_of t) in
    let some : 0 < r = root_positive (quat_norm2_of t) h in
    let root : IsRoot (quat_norm2_of t) r = root_of-is_root (quat_norm2_of t) in
    ratio_of r (sizes t.a t.b t.c t.d) (quat_norm2_of (unit_quat_of t)) (quat_norm2_of t) some root
    (four_sizes (unsigned_abs t.a) (unsigned_abs t.b) (unsigned_abs t.c) (unsigned_abs t.d) r (quat_norm2_of t) (sym (squares_sum t)) root.next_gt)
    (norm2_gap r (unit_quat_of t) t (parts_of t some))

-- a quaternion of some length, brought to length one, stands for nearly the same rotation
pub truncation_law : (t : Quat) → 0 < quat_norm2_of t → FormsClose (unit_quat_of t) t
truncation_law t h =
    forms_close (root_of (quat_norm2_of t)) (sizes t.a t.b t.c t.d) (unit_quat_of t) t (unit_ratio t h) (parts_of t (root_positive (quat_norm2_of t) h)) refl (squares_sum t)

-- a quaternion of some length, brought to length one, has nearly that length
pub unit_long : (t : Quat) → 0 < quat_norm2_of t → 2 ^ 60 ≤ quat_norm2_of (unit_quat_of t) + 3 * 2 ^ 31
unit_long t h = (unit_ratio t h).long

-- and so some
pub unit_some : (t : Quat) → 0 < quat_norm2_of t → 0 < quat_norm2_of (unit_quat_of t)
unit_some t h = let long : 2 ^ 60 ≤ quat_norm2_of (unit_quat_of t) + 3 * 2 ^ 31 = unit_long t h in omega arith
