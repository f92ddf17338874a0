-- The squared length of a quaternion whose components are bounded.
use Rattle.std.proofs.Common.{◌<◌, ◌≤◌, ◌^◌, arith, unsigned_abs}
use Rattle.std.proofs.lemmas.Nat.{mul-le}
use Rattle.dem_num.specs.declared.vector.Quat.{Quat}
use Rattle.dem_num.specs.Rotations.{quat_norm2_of}

-- it fits 128 bits where each component is at most 2^31 in size
pub norm2_small : (q : Quat) → unsigned_abs q.a ≤ 2 ^ 31 → unsigned_abs q.b ≤ 2 ^ 31 → unsigned_abs q.c ≤ 2 ^ 31 → unsigned_abs q.d ≤ 2 ^ 31 → quat_norm2_of q < 2 ^ 128
unfolding quat_norm2_of
norm2_small q a b c d = grind (arith, mul-le)
