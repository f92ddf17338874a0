-- What it says that corners are close, and that a place is within reach of a facet: how long the ways between them are.
use Rattle.std.proofs.Common.{◌≡◌, ℕ, ◌^◌, ◌≤◌, arith, ℤ, pos, ◌+ℤ◌, ◌-ℤ◌, unsigned_abs, true, ◌&&◌, nat_le}
use Rattle.std.specs.Prelude.{int_le}
use Rattle.std.proofs.lemmas.Int.{ints}
use Rattle.std.proofs.lemmas.Bool.{and_parts}
use Rattle.dem_num.specs.declared.vector.Vec3.{Vec3}
use Rattle.dem_num.specs.Vectors.{Within, norm2_of}
use Rattle.dem_model.specs.Facet.{way, least_of, greatest_of, are_close, corners_close, facet_normal, facet_good, is_beside, facet_reaches}
use Rattle.dem_facet.specs.Beside.{IsBeside}

second_close : (x y z : ℤ) → are_close x y z ≡ true → unsigned_abs (y -ℤ x) ≤ 2 ^ 26
unfolding are_close least_of greatest_of
second_close x y z h = grind (arith, ints)

third_close : (x y z : ℤ) → are_close x y z ≡ true → unsigned_abs (z -ℤ x) ≤ 2 ^ 26
unfolding are_close least_of greatest_of
third_close x y z h = grind (arith, ints)

last_close : (x y z : ℤ) → are_close x y z ≡ true → unsigned_abs (z -ℤ y) ≤ 2 ^ 26
unfolding are_close least_of greatest_of
last_close x y z h = grind (arith, ints)

-- corners are close on each axis
pub close_parts : (a b c : Vec3) → corners_close a b c ≡ true → (are_close a.x b.x c.x ≡ true) × (are_close a.y b.y c.y ≡ true) × (are_close a.z b.z c.z ≡ true)
unfolding corners_close
close_parts a b c h =
    let last = and_parts (are_close a.x b.x c.x && are_close a.y b.y c.y) (are_close a.z b.z c.z) h in
    let first = and_parts (are_close a.x b.x c.x) (are_close a.y b.y c.y) last.0 in
    (first.0, first.1, last.1)

-- the sides of a triangle whose corners are close
pub ab_close : (a b c : Vec3) → corners_close a b c ≡ true → Within (way a b) (2 ^ 26)
ab_close a b c h = let p = close_parts a b c h in record {
  x = second_close a.x b.x c.x p.0;
  y = second_close a.y b.y c.y p.1;
  z = second_close a.z b.z c.z p.2;
}

pub ac_close : (a b c : Vec3) → corners_close a b c ≡ true → Within (way a c) (2 ^ 26)
ac_close a b c h = let p = close_parts a b c h in record {
  x = third_close a.x b.x c.x p.0;
  y = third_close a.y b.y c.y p.1;
  z = third_close a.z b.z c.z p.2;
}

pub bc_close : (a b c : Vec3) → corners_close a b c ≡ true → Within (way b c) (2 ^ 26)
bc_close a b c h = let p = close_parts a b c h in record {
  x = last_close a.x b.x c.x p.0;
  y = last_close a.y b.y c.y p.1;
  z = last_close a.z b.z c.z p.2;
}

at_least : (m n : ℕ) → nat_le m n ≡ true → m ≤ n
at_least m n h = grind arith

-- a good facet has close corners
pub good_close : (a b c : Vec3) → facet_good a b c ≡ true → corners_close a b c ≡ true
unfolding facet_good
good_close a b c h = (and_parts (corners_close a b c) (nat_le (2 ^ 40) (norm2_of (facet_normal a b c))) h).0

-- a good facet has a long normal
pub good_long : (a b c : Vec3) → facet_good a b c ≡ true → 2 ^ 40 ≤ norm2_of (facet_normal a b c)
unfolding facet_good
good_long a b c h = at_least (2 ^ 40) (norm2_of (facet_normal a b c)) (and_parts (corners_close a b c) (nat_le (2 ^ 40) (norm2_of (facet_normal a b c))) h).1

beside_first : (x y z w : ℤ) (r : ℕ) → are_close x y z ≡ true → is_beside x y z r w ≡ true → r ≤ 2 ^ 26 → unsigned_abs (w -ℤ x) ≤ 2 ^ 27
unfolding are_close least_of greatest_of is_beside
beside_first x y z w r h k l = let both = and_parts (int_le (least_of x y z -ℤ pos r) w) (int_le w (greatest_of x y z +ℤ pos r)) k in grind (arith, ints)

beside_second : (x y z w : ℤ) (r : ℕ) → are_close x y z ≡ true → is_beside x y z r w ≡ true → r ≤ 2 ^ 26 → unsigned_abs (w -ℤ y) ≤ 2 ^ 27
unfolding are_close least_of greatest_of is_beside
beside_second x y z w r h k l = let both = and_parts (int_le (least_of x y z -ℤ pos r) w) (int_le w (greatest_of x y z +ℤ pos r)) k in grind (arith, ints)

beside_third : (x y z w : ℤ) (r : ℕ) → are_close x y z ≡ true → is_beside x y z r w ≡ true → r ≤ 2 ^ 26 → unsigned_abs (w -ℤ z) ≤ 2 ^ 27
unfolding are_close least_of greatest_of is_beside
beside_third x y z w r h k l = let both = and_parts (int_le (least_of x y z -ℤ pos r) w) (int_le w (greatest_of x y z +ℤ pos r)) k in grind (arith, ints)

-- a place within reach is so on each axis
pub reach_parts : (a b c s : Vec3) (r : ℕ) → facet_reaches a b c s r ≡ true → (is_beside a.x b.x c.x r s.x ≡ true) × (is_beside a.y b.y c.y r s.y ≡ true) × (is_beside a.z b.z c.z r s.z ≡ true)
unfolding facet_reaches
reach_parts a b c s r h =
    let last = and_parts (is_beside a.x b.x c.x r s.x && is_beside a.y b.y c.y r s.y) (is_beside a.z b.z c.z r s.z) h in
    let first = and_parts (is_beside a.x b.x c.x r s.x) (is_beside a.y b.y c.y r s.y) last.0 in
    (first.0, first.1, last.1)

-- a place within reach of a good facet is close to each corner
pub reach_close : (a b c s : Vec3) (r : ℕ) → facet_good a b c ≡ true → facet_reaches a b c s r ≡ true → r ≤ 2 ^ 26 → IsBeside a b c s
reach_close a b c s r g h l =
    let p = close_parts a b c (good_close a b c g) in
    let q = reach_parts a b c s r h in
    record {
      from_a = record { x = beside_first a.x b.x c.x s.x r p.0 q.0 l; y = beside_first a.y b.y c.y s.y r p.1 q.1 l; z = beside_first a.z b.z c.z s.z r p.2 q.2 l };
      from_b = record { x = beside_second a.x b.x c.x s.x r p.0 q.0 l; y = beside_second a.y b.y c.y s.y r p.1 q.1 l; z = beside_second a.z b.z c.z s.z r p.2 q.2 l };
      from_c = record { x = beside_third a.x b.x c.x s.x r p.0 q.0 l; y = beside_third a.y b.y c.y s.y r p.1 q.1 l; z = beside_third a.z b.z c.z s.z r p.2 q.2 l };
    }
