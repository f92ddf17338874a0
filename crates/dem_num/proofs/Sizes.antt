-- How large quotients, shifts, clamped numbers and products may be, in whole numbers without width.
use Rattle.std.proofs.Common.{◌≡◌, ℕ, suc, ◌+◌, ◌-◌, ◌*◌, ◌/◌, ◌%◌, ◌^◌, ◌<◌, ◌≤◌, arith, ℤ, pos, negsuc, ◌+ℤ◌, ◌-ℤ◌, ◌*ℤ◌, unsigned_abs}
use Rattle.std.proofs.lemmas.Int.{unsigned_abs-mul}
use Rattle.std.proofs.lemmas.Nat.{mul-le, div_below, le-div, div-add-mod', pow_pos}
use Rattle.dem_num.specs.Numbers.{quotient, shifted, clamped, opposite}

-- the quotient, rounded down, and one more: the quotient of what is nearly one divisor more
suc_div_le : (a m : ℕ) → 0 < m → suc (a / m) ≤ (suc a + m - 1) / m
suc_div_le a m p = let whole : a / m * m + a % m ≡ a = div-add-mod' a m in le-div (suc (a / m)) (suc a + m - 1) m p (omega arith)

div_le_up : (a m : ℕ) → 0 < m → a / m ≤ (a + m - 1) / m
div_le_up a m p = let whole : a / m * m + a % m ≡ a = div-add-mod' a m in le-div (a / m) (a + m - 1) m p (omega arith)

-- a floor of a shift is at most the quotient of the size, rounded up
pub shifted-size : (x : ℤ) (k : ℕ) → unsigned_abs (shifted x k) ≤ (unsigned_abs x + 2 ^ k - 1) / 2 ^ k
unfolding shifted
shifted-size (pos a) k = div_le_up a (2 ^ k) (pow_pos k)
shifted-size (negsuc a) k = suc_div_le a (2 ^ k) (pow_pos k)

-- a floor of a shift is at most m where the size is at most m times two to the power k
pub shifted_le : (x : ℤ) (k m : ℕ) → unsigned_abs x ≤ m * 2 ^ k → unsigned_abs (shifted x k) ≤ m
shifted_le x k m h = let whole : unsigned_abs (shifted x k) ≤ (unsigned_abs x + 2 ^ k - 1) / 2 ^ k = shifted-size x k in
    let some : 0 < 2 ^ k = pow_pos k in
    let below : (unsigned_abs x + 2 ^ k - 1) / 2 ^ k < suc m = div_below (unsigned_abs x + 2 ^ k - 1) (2 ^ k) (suc m) some (omega arith) in
    omega arith

-- the size of a quotient is the quotient of the sizes
pub quotient-size : (x y : ℤ) → unsigned_abs (quotient x y) ≡ unsigned_abs x / unsigned_abs y
unfolding quotient
quotient-size x y = grind arith

-- a quotient by a positive number is at most m where the dividend is less than m + 1 times the divisor
pub quotient_le : (x y : ℤ) (m : ℕ) → 0 < unsigned_abs y → unsigned_abs x < (m + 1) * unsigned_abs y → unsigned_abs (quotient x y) ≤ m
quotient_le x y m p h = let e : unsigned_abs (quotient x y) ≡ unsigned_abs x / unsigned_abs y = quotient-size x y in
    let below : unsigned_abs x / unsigned_abs y < m + 1 = div_below (unsigned_abs x) (unsigned_abs y) (m + 1) p h in omega arith

-- a clamped number is at most the bound in size
pub clamped_le : (x m : ℤ) → unsigned_abs (clamped x m) ≤ unsigned_abs m
unfolding clamped
clamped_le x m = grind arith

-- a clamped number is at most the number in size
pub clamped_le_self : (x : ℤ) (m : ℕ) → unsigned_abs (clamped x (pos m)) ≤ unsigned_abs x
unfolding clamped
clamped_le_self x m = grind arith

-- a number within the bound stays
pub clamped-within : (x : ℤ) (m : ℕ) → unsigned_abs x ≤ m → clamped x (pos m) ≡ x
unfolding clamped
clamped-within x m h = grind arith

-- the size of the opposite number
pub opposite-size : (x : ℤ) → unsigned_abs (opposite x) ≡ unsigned_abs x
unfolding opposite
opposite-size x = grind arith

-- the size of a sum
pub sum_le : (x y : ℤ) (m n : ℕ) → unsigned_abs x ≤ m → unsigned_abs y ≤ n → unsigned_abs (x +ℤ y) ≤ m + n
sum_le x y m n h k = grind arith

-- the size of a difference
pub difference_le : (x y : ℤ) (m n : ℕ) → unsigned_abs x ≤ m → unsigned_abs y ≤ n → unsigned_abs (x -ℤ y) ≤ m + n
difference_le x y m n h k = grind arith

-- the size of a product
pub product_le : (x y : ℤ) (m n : ℕ) → unsigned_abs x ≤ m → unsigned_abs y ≤ n → unsigned_abs (x *ℤ y) ≤ m * n
product_le x y m n h k = let e : unsigned_abs (x *ℤ y) ≡ unsigned_abs x * unsigned_abs y = unsigned_abs-mul x y in
    let l : unsigned_abs x * unsigned_abs y ≤ m * n = mul-le (unsigned_abs x) (unsigned_abs y) m n h k in omega arith
