-- The length of a way: each component is at most that, and it is below what the square is below the square of.
use Rattle.std.proofs.Common.{ℕ, ◌*◌, ◌<◌, ◌≤◌, arith, unsigned_abs}
use Rattle.dem_num.specs.declared.vector.Wide3.{Wide3}
use Rattle.dem_num.specs.Numbers.{IsRoot, root_of}
use Rattle.dem_num.specs.Vectors.{norm2_of}
use Rattle.dem_num.proofs.RootFacts.{le_root, root_of-is_root}
use Rattle.dem_num.proofs.ProductBounds.{lt_from_squares}

pub part_x : (d : Wide3) → unsigned_abs d.x ≤ root_of (norm2_of d)
unfolding norm2_of
part_x d = le_root _ (unsigned_abs d.x) (omega arith)

pub part_y : (d : Wide3) → unsigned_abs d.y ≤ root_of (norm2_of d)
unfolding norm2_of
part_y d = le_root _ (unsigned_abs d.y) (omega arith)

pub part_z : (d : Wide3) → unsigned_abs d.z ≤ root_of (norm2_of d)
unfolding norm2_of
part_z d = le_root _ (unsigned_abs d.z) (omega arith)

-- the root is less than m where the number is less than m squared
pub root_below : (x m : ℕ) → x < m * m → root_of x < m
root_below x m l = let r : IsRoot x (root_of x) = root_of-is_root x in lt_from_squares (root_of x) m (omega (arith, r.square_le))
