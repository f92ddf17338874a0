-- Quotients of natural numbers, told by what they leave.
use Rattle.std.proofs.Common.{◌≡◌, ℕ, ◌+◌, ◌*◌, ◌/◌, ◌-◌, ◌<◌, ◌≤◌, arith}
use Rattle.std.proofs.lemmas.Nat.{div_below, le-div}

-- a number is the quotient where it leaves less than the divisor
pub quotient_is : (x y g : ℕ) → 0 < y → g * y ≤ x → x - g * y < y → g ≡ x / y
quotient_is x y g p l r =
    let below : x / y < g + 1 = div_below x y (g + 1) p (omega arith) in
    let above : g ≤ x / y = le-div g x y p l in
    omega arith

-- the next number is the quotient where it leaves no less than the divisor, and less than two of it
pub quotient_is_next : (x y g : ℕ) → 0 < y → g * y ≤ x → y ≤ x - g * y → x - g * y - y < y → g + 1 ≡ x / y
quotient_is_next x y g p l m r =
    let below : x / y < g + 2 = div_below x y (g + 2) p (omega arith) in
    let above : g + 1 ≤ x / y = le-div (g + 1) x y p (omega arith) in
    omega arith
