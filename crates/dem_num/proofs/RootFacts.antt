-- The whole root: there is exactly one, and counting upward finds it.
use Rattle.std.proofs.Common.{◌≡◌, ℕ, zero, suc, ◌+◌, ◌*◌, ◌<◌, ◌≤◌, arith, inl, inr, if◌then◌else◌, nat_le}
use Rattle.std.proofs.lemmas.Nat.{mul-le}
use Rattle.std.proofs.lemmas.Bool.{cases_lt}
use Rattle.std.proofs.lemmas.Bool.Decides.{nat_tests}
use Rattle.dem_num.specs.Numbers.{IsRoot, root_of}
use Rattle.dem_num.proofs.ProductBounds.{le_from_squares, lt_from_squares}

-- of two roots of one number neither is the lesser
pub root_not_below : (x s t : ℕ) → IsRoot x s → IsRoot x t → t ≤ s
root_not_below x s t r q = let at_most : t * t ≤ x = q.square_le in
    let above : x < (s + 1) * (s + 1) = r.next_gt in
    elim (cases_lt s t) [
      | inl l ↦ let grows : (s + 1) * (s + 1) ≤ t * t = mul-le (s + 1) (s + 1) t t (omega arith) (omega arith) in absurd (omega arith)
      | inr g ↦ g
    ]

-- a number has one root
pub same_root : (x s t : ℕ) → IsRoot x s → IsRoot x t → s ≡ t
same_root x s t r q = let a : t ≤ s = root_not_below x s t r q in let b : s ≤ t = root_not_below x t s q r in omega arith

-- where the root stays
root_stays : (n s : ℕ) → IsRoot n s → suc n < (s + 1) * (s + 1) → IsRoot (suc n) s
root_stays n s r l = let a : s * s ≤ n = r.square_le in record { square_le = omega arith; next_gt = l }

-- where the root grows by one
root_grows : (n s : ℕ) → IsRoot n s → (s + 1) * (s + 1) ≤ suc n → IsRoot (suc n) (s + 1)
root_grows n s r l = let a : n < (s + 1) * (s + 1) = r.next_gt in record { square_le = l; next_gt = omega arith }

root_next : (n s : ℕ) → IsRoot n s → IsRoot (suc n) (if nat_le ((s + 1) * (s + 1)) (suc n) then s + 1 else s)
root_next n s r = grind (arith, nat_tests, root_stays n s r, root_grows n s r)

-- counting upward finds the root
pub root_of-is_root : (x : ℕ) → IsRoot x (root_of x)
unfolding root_of
root_of-is_root zero = record { square_le = omega arith; next_gt = omega arith }
root_of-is_root (suc n) = root_next n (root_of n) (root_of-is_root n)

-- what is a root is the root
pub root_of_from_is_root : (x s : ℕ) → IsRoot x s → s ≡ root_of x
root_of_from_is_root x s r = same_root x s (root_of x) r (root_of-is_root x)

-- the root is at most m where the number is at most m squared
pub root_le : (x m : ℕ) → x ≤ m * m → root_of x ≤ m
root_le x m l = let r : IsRoot x (root_of x) = root_of-is_root x in
    let below : root_of x * root_of x ≤ m * m = omega (arith, r.square_le) in
    le_from_squares (root_of x) m below

-- the root is at least m where the number is at least m squared
pub le_root : (x m : ℕ) → m * m ≤ x → m ≤ root_of x
le_root x m l = let r : IsRoot x (root_of x) = root_of-is_root x in
    let above : x < (root_of x + 1) * (root_of x + 1) = r.next_gt in
    let less : m < root_of x + 1 = lt_from_squares m (root_of x + 1) (omega arith) in
    omega arith

-- the root of a number that is not zero is not zero
pub root_positive : (x : ℕ) → 0 < x → 0 < root_of x
root_positive x l = le_root x 1 (omega arith)
