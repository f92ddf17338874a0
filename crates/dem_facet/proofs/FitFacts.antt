-- The products of a facet's sides are small, and the divisors made of them are the squared lengths of its sides: greater than zero.
use Rattle.std.proofs.Common.{◌≡◌, ℕ, ◌+◌, ◌*◌, ◌^◌, ◌<◌, ◌≤◌, arith, ℤ, pos, ◌+ℤ◌, ◌-ℤ◌, ◌<ℤ◌, unsigned_abs, true, List, [], ◌∷◌, inl, inr, refl, sym, ap₂, ◌∙◌, subst}
use Rattle.std.proofs.lemmas.Int.{ints}
use Rattle.std.proofs.lemmas.Bool.{cases_lt}
use Rattle.dem_num.specs.declared.vector.Vec3.{Vec3}
use Rattle.dem_num.specs.declared.vector.Wide3.{Wide3}
use Rattle.dem_num.specs.Vectors.{Within, dot_of, cross_of, turn_product, norm2_of}
use Rattle.dem_num.proofs.ProductBounds.{le_from_squares}
use Rattle.dem_num.proofs.VectorSizes.{dot_le, cross_within, norm2_le}
use Rattle.dem_turn.proofs.Identity.{Term, var, plus, minus, times, identity}
use Rattle.dem_turn.proofs.FormTerms.{dot_term}
use Rattle.dem_turn.proofs.TurnLaws.{norm2-is}
use Rattle.dem_model.specs.Facet.{way, facet_normal, facet_good}
use Rattle.dem_facet.specs.declared.products.Products.{Products}
use Rattle.dem_facet.specs.Beside.{IsBeside, AreProducts, AreFit}
use Rattle.dem_facet.proofs.CloseFacts.{good_close, good_long, ab_close, ac_close, bc_close}

-- the letters of three corners and a place, and the product of two ways between them
abbrev letters : Vec3 → Vec3 → Vec3 → Vec3 → List ℤ
letters a b c s = a.x ∷ a.y ∷ a.z ∷ b.x ∷ b.y ∷ b.z ∷ c.x ∷ c.y ∷ c.z ∷ s.x ∷ s.y ∷ s.z ∷ []

abbrev ways : ℕ → ℕ → ℕ → ℕ → Term
ways i j k l =
    dot_term (minus (var j) (var i)) (minus (var (j + 1)) (var (i + 1))) (minus (var (j + 2)) (var (i + 2)))
    (minus (var l) (var k)) (minus (var (l + 1)) (var (k + 1))) (minus (var (l + 2)) (var (k + 2)))

-- the three divisors are products of a side with itself
first_whole : (a b c s : Vec3) → dot_of (way a b) (way a s) -ℤ dot_of (way a b) (way b s) ≡ dot_of (way a b) (way a b)
unfolding dot_of
first_whole a b c s = identity (letters a b c s) (minus (ways 0 3 0 9) (ways 0 3 3 9)) (ways 0 3 0 3) refl

second_whole : (a b c s : Vec3) → dot_of (way a c) (way a s) -ℤ dot_of (way a c) (way c s) ≡ dot_of (way a c) (way a c)
unfolding dot_of
second_whole a b c s = identity (letters a b c s) (minus (ways 0 6 0 9) (ways 0 6 6 9)) (ways 0 6 0 6) refl

third_whole : (a b c s : Vec3) → (dot_of (way a c) (way b s) -ℤ dot_of (way a b) (way b s)) +ℤ (dot_of (way a b) (way c s) -ℤ dot_of (way a c) (way c s)) ≡ dot_of (way b c) (way b c)
unfolding dot_of
third_whole a b c s =
    identity (letters a b c s)
    (plus (minus (ways 0 6 3 9) (ways 0 3 3 9)) (minus (ways 0 3 6 9) (ways 0 6 6 9)))
    (ways 3 6 3 6)
    refl

-- the product of a way with itself is its squared length
own_square : (d : Wide3) → dot_of d d ≡ pos (norm2_of d)
unfolding dot_of
own_square d = sym (norm2-is d)

normal_part : (u v p q x y : ℤ) → turn_product (p -ℤ u) (y -ℤ v) (q -ℤ v) (x -ℤ u) ≡ turn_product (p -ℤ u) (y -ℤ q) (q -ℤ v) (x -ℤ p)
unfolding turn_product
normal_part u v p q x y =
    identity (u ∷ v ∷ p ∷ q ∷ x ∷ y ∷ [])
    (minus (times (minus (var 2) (var 0)) (minus (var 5) (var 1))) (times (minus (var 3) (var 1)) (minus (var 4) (var 0))))
    (minus (times (minus (var 2) (var 0)) (minus (var 5) (var 3))) (times (minus (var 3) (var 1)) (minus (var 4) (var 2))))
    refl

-- the normal is the same, seen from another corner
normal_from : (a b c : Vec3) → facet_normal a b c ≡ cross_of (way a b) (way b c)
normal_from a b c = λ i. record {
  x = normal_part a.y a.z b.y b.z c.y c.z i;
  y = normal_part a.z a.x b.z b.x c.z c.x i;
  z = normal_part a.x a.y b.x b.y c.x c.y i;
}

no_part : (x n : ℕ) → n ≤ 0 → x * x ≤ n → x ≤ 0
no_part x n h l = le_from_squares x 0 (omega arith)

-- what has no length is nothing
still : (d : Wide3) → norm2_of d ≤ 0 → Within d 0
unfolding norm2_of
still d h = record {
  x = no_part (unsigned_abs d.x) _ h (omega arith);
  y = no_part (unsigned_abs d.y) _ h (omega arith);
  z = no_part (unsigned_abs d.z) _ h (omega arith);
}

-- a facet with a side of no length has no area
first_long : (d e : Wide3) → Within e (2 ^ 26) → 2 ^ 40 ≤ norm2_of (cross_of d e) → 0 < norm2_of d
first_long d e h l = elim (cases_lt 0 (norm2_of d)) [
  | inl k ↦ k
  | inr g ↦ let none : norm2_of (cross_of d e) ≤ 3 * (0 * 0) = norm2_le (cross_of d e) 0 (cross_within d e 0 (2 ^ 26) (still d g) h) in absurd (omega arith)
]

second_long : (d e : Wide3) → Within d (2 ^ 26) → 2 ^ 40 ≤ norm2_of (cross_of d e) → 0 < norm2_of e
second_long d e h l = elim (cases_lt 0 (norm2_of e)) [
  | inl k ↦ k
  | inr g ↦ let none : norm2_of (cross_of d e) ≤ 3 * (0 * 0) = norm2_le (cross_of d e) 0 (cross_within d e (2 ^ 26) 0 h (still e g)) in absurd (omega arith)
]

-- the product of a side and a way is small
fits : (z : ℤ) (d e : Wide3) → z ≡ dot_of d e → Within d (2 ^ 26) → Within e (2 ^ 27) → unsigned_abs z ≤ 2 ^ 55
fits z d e f g h = let most : unsigned_abs (dot_of d e) ≤ 3 * (2 ^ 26 * 2 ^ 27) = dot_le d e (2 ^ 26) (2 ^ 27) g h in rw f (omega arith)

positive : (z : ℤ) (n : ℕ) → z ≡ pos n → 0 < n → pos 0 <ℤ z
positive z n e h = rw e (omega (arith, ints))

-- the products of a good facet's sides with the ways to a place beside it fit
pub are_fit : (a b c s : Vec3) (p : Products) → facet_good a b c ≡ true → IsBeside a b c s → AreProducts (way a b) (way a c) (way a s) (way b s) (way c s) p → AreFit p
are_fit a b c s p g h v =
    let close = good_close a b c g in
    let long = good_long a b c g in
    let ab = ab_close a b c close in
    let ac = ac_close a b c close in
    let bc = bc_close a b c close in
    let turned : 2 ^ 40 ≤ norm2_of (cross_of (way a b) (way b c)) = subst (λ (n : Wide3). 2 ^ 40 ≤ norm2_of n) (normal_from a b c) long in
    record {
      d1 = fits p.d1 (way a b) (way a s) v.d1 ab h.from_a;
      d2 = fits p.d2 (way a c) (way a s) v.d2 ac h.from_a;
      d3 = fits p.d3 (way a b) (way b s) v.d3 ab h.from_b;
      d4 = fits p.d4 (way a c) (way b s) v.d4 ac h.from_b;
      d5 = fits p.d5 (way a b) (way c s) v.d5 ab h.from_c;
      d6 = fits p.d6 (way a c) (way c s) v.d6 ac h.from_c;
      first = positive (p.d1 -ℤ p.d3) (norm2_of (way a b)) (ap₂ (λ x y. x -ℤ y) v.d1 v.d3 ∙ first_whole a b c s ∙ own_square (way a b)) (first_long (way a b) (way a c) ac long);
      second = positive (p.d2 -ℤ p.d6) (norm2_of (way a c)) (ap₂ (λ x y. x -ℤ y) v.d2 v.d6 ∙ second_whole a b c s ∙ own_square (way a c)) (second_long (way a b) (way a c) ab long);
      third = positive ((p.d4 -ℤ p.d3) +ℤ (p.d5 -ℤ p.d6)) (norm2_of (way b c))
          (ap₂ (λ x y. x +ℤ y) (ap₂ (λ x y. x -ℤ y) v.d4 v.d3) (ap₂ (λ x y. x -ℤ y) v.d5 v.d6) ∙ third_whole a b c s ∙ own_square (way b c))
          (second_long (way a b) (way b c) ab turned);
    }

-- products of the same sides and ways
pub products_from : (ab ac k l m ab' ac' k' l' m' : Wide3) (p : Products) → ab ≡ ab' → ac ≡ ac' → k ≡ k' → l ≡ l' → m ≡ m' → AreProducts ab ac k l m p → AreProducts ab' ac' k' l' m' p
products_from ab ac k l m ab' ac' k' l' m' p e f g h i v = rw (← e, ← f, ← g, ← h, ← i) v
