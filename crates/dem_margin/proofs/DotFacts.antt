-- A product of vectors changes by the product with the change.
use Rattle.std.proofs.Common.{◌≡◌, ℕ, ◌+◌, ◌*◌, ◌≤◌, arith, ℤ, ◌+ℤ◌, ◌-ℤ◌, ◌*ℤ◌, unsigned_abs, ap}
use Rattle.std.proofs.lemmas.Int.{ints}
use borrow.Author.Differences.{up, down}
use Rattle.dem_num.specs.declared.vector.Wide3.{Wide3}
use Rattle.dem_num.specs.Vectors.{Within, difference_of, dot_of}
use Rattle.dem_num.proofs.VectorSizes.{dot_le}

-- the difference of two products by one factor is the product with the difference
product_from : (u x y z : ℤ) → x -ℤ y ≡ z → u *ℤ x -ℤ u *ℤ y ≡ u *ℤ z
product_from u x y z e =
    let parts : up x + down y + down z ≡ down x + up y + up z = omega (arith, ints) in
    let raised : up u * (up x + down y + down z) ≡ up u * (down x + up y + up z) = ap (λ (n : ℕ). up u * n) parts in
    let lowered : down u * (up x + down y + down z) ≡ down u * (down x + up y + up z) = ap (λ (n : ℕ). down u * n) parts in
    omega (arith, ints)

-- the difference of two sums of three is the sum of the differences
sums_from : (a b c d e f g h i : ℤ) → a -ℤ d ≡ g → b -ℤ e ≡ h → c -ℤ f ≡ i → (a +ℤ b +ℤ c) -ℤ (d +ℤ e +ℤ f) ≡ g +ℤ h +ℤ i
sums_from a b c d e f g h i p q r = omega (arith, ints)

-- the change of a difference, where only the first changes
change_from : (a b t : ℤ) → (a -ℤ t) -ℤ (b -ℤ t) ≡ a -ℤ b
change_from a b t = omega (arith, ints)

-- the sums of products at two places differ by that with their difference
dot_from : (u a b t : Wide3) → dot_of u (difference_of a t) -ℤ dot_of u (difference_of b t) ≡ dot_of u (difference_of a b)
unfolding dot_of
dot_from u a b t = sums_from (u.x *ℤ (a.x -ℤ t.x)) (u.y *ℤ (a.y -ℤ t.y)) (u.z *ℤ (a.z -ℤ t.z)) (u.x *ℤ (b.x -ℤ t.x)) (u.y *ℤ (b.y -ℤ t.y)) (u.z *ℤ (b.z -ℤ t.z)) (u.x *ℤ (a.x -ℤ b.x)) (u.y *ℤ (a.y -ℤ b.y)) (u.z *ℤ (a.z -ℤ b.z))
    (product_from u.x (a.x -ℤ t.x) (b.x -ℤ t.x) (a.x -ℤ b.x) (change_from a.x b.x t.x))
    (product_from u.y (a.y -ℤ t.y) (b.y -ℤ t.y) (a.y -ℤ b.y) (change_from a.y b.y t.y))
    (product_from u.z (a.z -ℤ t.z) (b.z -ℤ t.z) (a.z -ℤ b.z) (change_from a.z b.z t.z))

-- the size of a difference is that of the opposite difference
turned_le : (a b : ℤ) (m : ℕ) → unsigned_abs (a -ℤ b) ≤ m → unsigned_abs (b -ℤ a) ≤ m
turned_le a b m h = omega (arith, ints)

turned_within : (a b : Wide3) (m : ℕ) → Within (difference_of a b) m → Within (difference_of b a) m
turned_within a b m h = record { x = turned_le a.x b.x m h.x; y = turned_le a.y b.y m h.y; z = turned_le a.z b.z m h.z }

-- places that are close to each other have sums of products that are close
pub dot_change_le : (u a b t : Wide3) (n m : ℕ) → Within u n → Within (difference_of b a) m →
    unsigned_abs (dot_of u (difference_of a t) -ℤ dot_of u (difference_of b t)) ≤ 3 * m * n
dot_change_le u a b t n m h k =
    let change : unsigned_abs (dot_of u (difference_of a b)) ≤ 3 * (n * m) = dot_le u (difference_of a b) n m h (turned_within b a m k) in
    rw (dot_from u a b t) (omega arith)
