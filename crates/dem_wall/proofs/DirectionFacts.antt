-- The length of a plane's direction: each component is at most that, and it isn't zero.
use Rattle.std.specs.Prelude.{◌&&◌, ◌==◌}
use Rattle.std.proofs.Common.{◌≡◌, ℕ, zero, suc, ◌+◌, ◌*◌, ◌/◌, ◌<◌, ◌≤◌, arith, ℤ, unsigned_abs, false}
use Rattle.std.proofs.lemmas.Nat.{mul-le, div_below}
use Rattle.dem_num.specs.declared.vector.Wide3.{Wide3}
use Rattle.dem_num.specs.Numbers.{root_of}
use Rattle.dem_num.specs.Vectors.{norm2_of, is_zero}
use Rattle.dem_model.specs.Touch.{distance2_of}
use Rattle.dem_num.proofs.RootFacts.{le_root}

-- a component, times m, is at most the root of a sum of squares, times the square of m
pub fine_part : (m x s : ℕ) → x * x ≤ s → m * x ≤ root_of (m * m * s)
fine_part m x s h =
    let most : m * m * (x * x) ≤ m * m * s = mul-le (m * m) (x * x) (m * m) s (omega arith) h in
    le_root (m * m * s) (m * x) (omega arith)

-- the components are no greater than the length, each times m
pub fine_part_x : (m : ℕ) (d : Wide3) → m * unsigned_abs d.x ≤ root_of (m * m * norm2_of d)
unfolding norm2_of
fine_part_x m d = fine_part m (unsigned_abs d.x) _ (omega arith)

pub fine_part_y : (m : ℕ) (d : Wide3) → m * unsigned_abs d.y ≤ root_of (m * m * norm2_of d)
unfolding norm2_of
fine_part_y m d = fine_part m (unsigned_abs d.y) _ (omega arith)

pub fine_part_z : (m : ℕ) (d : Wide3) → m * unsigned_abs d.z ≤ root_of (m * m * norm2_of d)
unfolding norm2_of
fine_part_z m d = fine_part m (unsigned_abs d.z) _ (omega arith)

some_square : (a b c : ℕ) → ((a == 0) && (b == 0) && (c == 0)) ≡ false → 0 < a * a + b * b + c * c
some_square (suc a) b c h = omega arith
some_square zero (suc b) c h = omega arith
some_square zero zero (suc c) h = omega arith
some_square zero zero zero h = cc

-- a direction that isn't zero has a length
pub norm2_positive : (d : Wide3) → is_zero d ≡ false → 0 < norm2_of d
unfolding norm2_of
norm2_positive d h = some_square (unsigned_abs d.x) (unsigned_abs d.y) (unsigned_abs d.z) h

-- p is k times a part of n: its quotient by n is at most k
pub times_part_le : (p n k m : ℕ) → 0 < n → m ≤ n → p ≡ k * m → p / n ≤ k
times_part_le p n k m some l e =
    let most : k * m ≤ k * n = mul-le k m k n (omega arith) l in
    let below : p / n < suc k = div_below p n (suc k) some (omega arith) in
    omega arith

-- the parts of a sum of two squares are at most its root
pub distance2_first : (e f : ℤ) → unsigned_abs e ≤ root_of (distance2_of e f)
unfolding distance2_of
distance2_first e f = le_root _ (unsigned_abs e) (omega arith)

pub distance2_second : (e f : ℤ) → unsigned_abs f ≤ root_of (distance2_of e f)
unfolding distance2_of
distance2_second e f = le_root _ (unsigned_abs f) (omega arith)
