-- The length of a quaternion and the size of its components.
use Rattle.std.proofs.Common.{ℕ, ◌+◌, ◌*◌, ◌<◌, ◌≤◌, arith, unsigned_abs}
use Rattle.std.proofs.lemmas.Nat.{mul-le}
use Rattle.dem_num.specs.declared.vector.Quat.{Quat}
use Rattle.dem_num.specs.Numbers.{IsRoot, square_of}
use Rattle.dem_num.specs.Rotations.{quat_norm2_of, QuatWithin}
use Rattle.dem_num.proofs.ProductBounds.{le_from_squares, lt_from_squares}

-- a component is at most m where the length is
pub quat_within : (q : Quat) (m : ℕ) → quat_norm2_of q ≤ m * m → QuatWithin q m
unfolding quat_norm2_of
quat_within q m h = record {
  a = le_from_squares (unsigned_abs q.a) m (omega arith);
  b = le_from_squares (unsigned_abs q.b) m (omega arith);
  c = le_from_squares (unsigned_abs q.c) m (omega arith);
  d = le_from_squares (unsigned_abs q.d) m (omega arith);
}

-- the square of the length of a quaternion whose components are small
pub quat_norm2_le : (q : Quat) (m : ℕ) → QuatWithin q m → quat_norm2_of q ≤ 4 * (m * m)
unfolding quat_norm2_of
quat_norm2_le q m h =
    let a : square_of q.a ≤ m * m = mul-le (unsigned_abs q.a) (unsigned_abs q.a) m m h.a h.a in
    let b : square_of q.b ≤ m * m = mul-le (unsigned_abs q.b) (unsigned_abs q.b) m m h.b h.b in
    let c : square_of q.c ≤ m * m = mul-le (unsigned_abs q.c) (unsigned_abs q.c) m m h.c h.c in
    let d : square_of q.d ≤ m * m = mul-le (unsigned_abs q.d) (unsigned_abs q.d) m m h.d h.d in
    omega arith

component_within_root : (a n r : ℕ) → a * a ≤ n → IsRoot n r → a ≤ r
component_within_root a n r h root = let above : n < (r + 1) * (r + 1) = root.next_gt in
    let below : a < r + 1 = lt_from_squares a (r + 1) (omega arith) in omega arith

-- no component is longer than the root of the squared length
pub quat_within_root : (q : Quat) (r : ℕ) → IsRoot (quat_norm2_of q) r → QuatWithin q r
unfolding quat_norm2_of
quat_within_root q r h = record {
  a = component_within_root (unsigned_abs q.a) (square_of q.a + square_of q.b + square_of q.c + square_of q.d) r (omega arith) h;
  b = component_within_root (unsigned_abs q.b) (square_of q.a + square_of q.b + square_of q.c + square_of q.d) r (omega arith) h;
  c = component_within_root (unsigned_abs q.c) (square_of q.a + square_of q.b + square_of q.c + square_of q.d) r (omega arith) h;
  d = component_within_root (unsigned_abs q.d) (square_of q.a + square_of q.b + square_of q.c + square_of q.d) r (omega arith) h;
}
