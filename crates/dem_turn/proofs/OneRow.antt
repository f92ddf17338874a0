-- One row of the matrix before and after a step, on one vector.
use Rattle.std.proofs.Common.{◌≡◌, ℕ, ◌+◌, ◌*◌, ◌^◌, ◌<◌, ◌≤◌, ℤ, pos, ◌+ℤ◌, ◌-ℤ◌, ◌*ℤ◌, unsigned_abs, [], ◌∷◌, arith, refl, ap}
use Rattle.std.proofs.lemmas.Int.{ints, unsigned_abs-mul}
use Rattle.std.proofs.lemmas.Nat.{mul-le}
use Rattle.dem_num.specs.declared.vector.Wide3.{Wide3}
use Rattle.dem_num.specs.Vectors.{Within, dot_of}
use Rattle.dem_num.proofs.ProductBounds.{drop_factor}
use Rattle.dem_turn.specs.Forms.{apart, RowsClose}
use Rattle.dem_turn.proofs.Identity.{Term, var, plus, minus, times, identity}
use Rattle.dem_turn.proofs.FormTerms.{dot_term}

-- a row of entries: each is its form over the squared length, times 2^30, nearly
pub record IsRowOf (n : ℕ) (e f : Wide3) : Type 0 where
  pub x : unsigned_abs (pos n *ℤ e.x -ℤ f.x *ℤ pos (2 ^ 30)) ≤ n
  pub y : unsigned_abs (pos n *ℤ e.y -ℤ f.y *ℤ pos (2 ^ 30)) ≤ n
  pub z : unsigned_abs (pos n *ℤ e.z -ℤ f.z *ℤ pos (2 ^ 30)) ≤ n

-- what one entry adds: by its own rounding, by that of the old entry, and by that of the quaternion
abbrev entry_part : ℤ → ℤ → ℤ → ℤ → ℤ → ℤ → ℤ → ℤ → ℤ → ℤ
entry_part q n p m e d h g f = (n *ℤ p) *ℤ (q *ℤ e -ℤ h *ℤ m) -ℤ (q *ℤ p) *ℤ (n *ℤ d -ℤ f *ℤ m) +ℤ m *ℤ (h *ℤ (n *ℤ p) -ℤ g *ℤ q)

abbrev entry_term : Term → Term → Term → Term → Term → Term
entry_term e d h g f =
    plus (minus (times (times (var 1) (var 2)) (minus (times (var 0) e) (times h (var 3)))) (times (times (var 0) (var 2)) (minus (times (var 1) d) (times f (var 3)))))
    (times (var 3) (minus (times h (times (var 1) (var 2))) (times g (var 0))))

-- a row on the vector
abbrev on : Term → Term → Term → Term
on u v w = dot_term u v w (var 19) (var 20) (var 21)

row-split : (q n p m : ℤ) (e d h g f o : Wide3) → (q *ℤ (n *ℤ p)) *ℤ (dot_of e o -ℤ dot_of d o)
    ≡ (entry_part q n p m e.x d.x h.x g.x f.x *ℤ o.x +ℤ entry_part q n p m e.y d.y h.y g.y f.y *ℤ o.y +ℤ entry_part q n p m e.z d.z h.z g.z f.z *ℤ o.z)
    +ℤ (q *ℤ m) *ℤ (dot_of g o -ℤ p *ℤ dot_of f o)
unfolding dot_of
row-split q n p m e d h g f o = identity
    (q ∷ n ∷ p ∷ m ∷ e.x ∷ e.y ∷ e.z ∷ d.x ∷ d.y ∷ d.z ∷ h.x ∷ h.y ∷ h.z ∷ g.x ∷ g.y ∷ g.z ∷ f.x ∷ f.y ∷ f.z ∷ o.x ∷ o.y ∷ o.z ∷ [])
    (times (times (var 0) (times (var 1) (var 2))) (minus (on (var 4) (var 5) (var 6)) (on (var 7) (var 8) (var 9))))
    (plus (on (entry_term (var 4) (var 7) (var 10) (var 13) (var 16)) (entry_term (var 5) (var 8) (var 11) (var 14) (var 17)) (entry_term (var 6) (var 9) (var 12) (var 15) (var 18)))
    (times (times (var 0) (var 3)) (minus (on (var 13) (var 14) (var 15)) (times (var 2) (on (var 16) (var 17) (var 18))))))
    refl

three_sizes : (x y z : ℤ) → unsigned_abs (x -ℤ y +ℤ z) ≤ unsigned_abs x + unsigned_abs y + unsigned_abs z
three_sizes x y z = omega (arith, ints)

four_sizes : (x y z w : ℤ) → unsigned_abs ((x +ℤ y +ℤ z) +ℤ w) ≤ unsigned_abs x + unsigned_abs y + unsigned_abs z + unsigned_abs w
four_sizes x y z w = omega (arith, ints)

part_le : (q n p : ℕ) (e d h g f : ℤ) → unsigned_abs (pos q *ℤ e -ℤ h *ℤ pos (2 ^ 30)) ≤ q → unsigned_abs (pos n *ℤ d -ℤ f *ℤ pos (2 ^ 30)) ≤ n
    → 2 ^ 30 * apart h q g (n * p) ≤ 13 * (q * (n * p)) → unsigned_abs (entry_part (pos q) (pos n) (pos p) (pos (2 ^ 30)) e d h g f) ≤ 15 * (q * (n * p))
part_le q n p e d h g f he hd hh =
    let u = pos q *ℤ e -ℤ h *ℤ pos (2 ^ 30) in
    let v = pos n *ℤ d -ℤ f *ℤ pos (2 ^ 30) in
    let w = h *ℤ pos (n * p) -ℤ g *ℤ pos q in
    let a : unsigned_abs (pos (n * p) *ℤ u) ≡ (n * p) * unsigned_abs u = unsigned_abs-mul (pos (n * p)) u in
    let b : unsigned_abs (pos (q * p) *ℤ v) ≡ (q * p) * unsigned_abs v = unsigned_abs-mul (pos (q * p)) v in
    let c : unsigned_abs (pos (2 ^ 30) *ℤ w) ≡ 2 ^ 30 * unsigned_abs w = unsigned_abs-mul (pos (2 ^ 30)) w in
    let all : unsigned_abs (pos (n * p) *ℤ u -ℤ pos (q * p) *ℤ v +ℤ pos (2 ^ 30) *ℤ w) ≤ unsigned_abs (pos (n * p) *ℤ u) + unsigned_abs (pos (q * p) *ℤ v) + unsigned_abs (pos (2 ^ 30) *ℤ w) =
    three_sizes (pos (n * p) *ℤ u) (pos (q * p) *ℤ v) (pos (2 ^ 30) *ℤ w) in
    let first : (n * p) * unsigned_abs u ≤ (n * p) * q = mul-le (n * p) (unsigned_abs u) (n * p) q (omega arith) he in
    let second : (q * p) * unsigned_abs v ≤ (q * p) * n = mul-le (q * p) (unsigned_abs v) (q * p) n (omega arith) hd in
    omega arith

product_small : (x o : ℤ) (k arm : ℕ) → unsigned_abs x ≤ k → unsigned_abs o ≤ arm → unsigned_abs (x *ℤ o) ≤ k * arm
product_small x o k arm hx ho =
    let size : unsigned_abs (x *ℤ o) ≡ unsigned_abs x * unsigned_abs o = unsigned_abs-mul x o in
    let most : unsigned_abs x * unsigned_abs o ≤ k * arm = mul-le (unsigned_abs x) (unsigned_abs o) k arm hx ho in
    omega arith

-- a row changes a vector's component little where its forms are close and the exact change is small
pub row_moves : (q n p spin arm : ℕ) (e d h g f o : Wide3) → 0 < q * (n * p) → IsRowOf q e h → IsRowOf n d f → RowsClose h q g (n * p) → Within o arm
    → 2 ^ 30 * unsigned_abs (dot_of g o -ℤ pos p *ℤ dot_of f o) ≤ 2 * ((n * p) * (spin * arm))
    → unsigned_abs (dot_of e o -ℤ dot_of d o) ≤ 45 * arm + 2 * (spin * arm)
row_moves q n p spin arm e d h g f o some he hd hh ho exact =
    let k = q * (n * p) in
    let part = λ (i j : ℤ). λ (u v w : ℤ). entry_part (pos q) (pos n) (pos p) (pos (2 ^ 30)) i j u v w in
    let moved = dot_of e o -ℤ dot_of d o in
    let left = dot_of g o -ℤ pos p *ℤ dot_of f o in
    let x : unsigned_abs (part e.x d.x h.x g.x f.x *ℤ o.x) ≤ (15 * k) * arm = product_small (part e.x d.x h.x g.x f.x) o.x (15 * k) arm (part_le q n p e.x d.x h.x g.x f.x he.x hd.x hh.x) ho.x in
    let y : unsigned_abs (part e.y d.y h.y g.y f.y *ℤ o.y) ≤ (15 * k) * arm = product_small (part e.y d.y h.y g.y f.y) o.y (15 * k) arm (part_le q n p e.y d.y h.y g.y f.y he.y hd.y hh.y) ho.y in
    let z : unsigned_abs (part e.z d.z h.z g.z f.z *ℤ o.z) ≤ (15 * k) * arm = product_small (part e.z d.z h.z g.z f.z) o.z (15 * k) arm (part_le q n p e.z d.z h.z g.z f.z he.z hd.z hh.z) ho.z in
    let last : unsigned_abs (pos (q * 2 ^ 30) *ℤ left) ≡ (q * 2 ^ 30) * unsigned_abs left = unsigned_abs-mul (pos (q * 2 ^ 30)) left in
    let last_le : q * (2 ^ 30 * unsigned_abs left) ≤ q * (2 * ((n * p) * (spin * arm))) = mul-le q (2 ^ 30 * unsigned_abs left) q (2 * ((n * p) * (spin * arm))) (omega arith) exact in
    let size : unsigned_abs (pos k *ℤ moved) ≡ k * unsigned_abs moved = unsigned_abs-mul (pos k) moved in
    let split : unsigned_abs (pos k *ℤ moved) ≡ unsigned_abs ((part e.x d.x h.x g.x f.x *ℤ o.x +ℤ part e.y d.y h.y g.y f.y *ℤ o.y +ℤ part e.z d.z h.z g.z f.z *ℤ o.z) +ℤ pos (q * 2 ^ 30) *ℤ left) =
    ap unsigned_abs (row-split (pos q) (pos n) (pos p) (pos (2 ^ 30)) e d h g f o) in
    let all : unsigned_abs ((part e.x d.x h.x g.x f.x *ℤ o.x +ℤ part e.y d.y h.y g.y f.y *ℤ o.y +ℤ part e.z d.z h.z g.z f.z *ℤ o.z) +ℤ pos (q * 2 ^ 30) *ℤ left)
    ≤ unsigned_abs (part e.x d.x h.x g.x f.x *ℤ o.x) + unsigned_abs (part e.y d.y h.y g.y f.y *ℤ o.y) + unsigned_abs (part e.z d.z h.z g.z f.z *ℤ o.z) + unsigned_abs (pos (q * 2 ^ 30) *ℤ left) =
    four_sizes (part e.x d.x h.x g.x f.x *ℤ o.x) (part e.y d.y h.y g.y f.y *ℤ o.y) (part e.z d.z h.z g.z f.z *ℤ o.z) (pos (q * 2 ^ 30) *ℤ left) in
    drop_factor (unsigned_abs moved) (45 * arm + 2 * (spin * arm)) k (omega arith) some
