-- The fine length of a normal: each component is at most that.
use Rattle.std.proofs.Common.{◌≡◌, ℕ, suc, ◌*◌, ◌/◌, ◌<◌, ◌≤◌, arith, unsigned_abs}
use Rattle.std.proofs.lemmas.Nat.{mul-le, div_below}
use Rattle.dem_num.specs.declared.vector.Wide3.{Wide3}
use Rattle.dem_num.specs.Numbers.{root_of}
use Rattle.dem_num.specs.Vectors.{norm2_of}
use Rattle.dem_num.proofs.RootFacts.{le_root}

-- a component, times m, is at most the root of a sum of squares, times the square of m
fine_part : (m x s : ℕ) → x * x ≤ s → m * x ≤ root_of (m * m * s)
fine_part m x s h =
    let most : m * m * (x * x) ≤ m * m * s = mul-le (m * m) (x * x) (m * m) s (omega arith) h in
    le_root (m * m * s) (m * x) (omega arith)

-- the components are no greater than the length, each times m
pub fine_part_x : (m : ℕ) (d : Wide3) → m * unsigned_abs d.x ≤ root_of (m * m * norm2_of d)
unfolding norm2_of
fine_part_x m d = fine_part m (unsigned_abs d.x) _ (omega arith)

pub fine_part_y : (m : ℕ) (d : Wide3) → m * unsigned_abs d.y ≤ root_of (m * m * norm2_of d)
unfolding norm2_of
fine_part_y m d = fine_part m (unsigned_abs d.y) _ (omega arith)

pub fine_part_z : (m : ℕ) (d : Wide3) → m * unsigned_abs d.z ≤ root_of (m * m * norm2_of d)
unfolding norm2_of
fine_part_z m d = fine_part m (unsigned_abs d.z) _ (omega arith)

-- p is k times a part of n: its quotient by n is at most k
pub times_part_le : (p n k m : ℕ) → 0 < n → m ≤ n → p ≡ k * m → p / n ≤ k
times_part_le p n k m some l e =
    let most : k * m ≤ k * n = mul-le k m k n (omega arith) l in
    let below : p / n < suc k = div_below p n (suc k) some (omega arith) in
    omega arith
