-- The least and the greatest of three numbers are no larger in size than these.
use Rattle.std.proofs.Common.{ℕ, ◌≤◌, arith, ℤ, unsigned_abs}
use Rattle.std.proofs.lemmas.Int.{ints}
use Rattle.dem_model.specs.Facet.{least_of, greatest_of}

pub least_small : (x y z : ℤ) (m : ℕ) → unsigned_abs x ≤ m → unsigned_abs y ≤ m → unsigned_abs z ≤ m → unsigned_abs (least_of x y z) ≤ m
unfolding least_of
least_small x y z m f g h = grind (arith, ints)

pub greatest_small : (x y z : ℤ) (m : ℕ) → unsigned_abs x ≤ m → unsigned_abs y ≤ m → unsigned_abs z ≤ m → unsigned_abs (greatest_of x y z) ≤ m
unfolding greatest_of
greatest_small x y z m f g h = grind (arith, ints)
