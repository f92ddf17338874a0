-- How far the forms of two quaternions are apart whose components are nearly in one ratio.
use Rattle.std.proofs.Common.{◌≡◌, ℕ, ◌+◌, ◌*◌, ◌≤◌, ℤ, pos, ◌+ℤ◌, ◌-ℤ◌, ◌*ℤ◌, unsigned_abs, List, [], ◌∷◌, arith, refl}
use Rattle.std.proofs.lemmas.Int.{ints, unsigned_abs-mul}
use Rattle.std.proofs.lemmas.Nat.{mul-le}
use Rattle.dem_num.specs.Rotations.{axial, mixed_sum, mixed_difference}
use Rattle.dem_turn.proofs.Identity.{Term, var, plus, minus, times, identity}
use Rattle.dem_turn.proofs.FormTerms.{axial_term, mixed_sum_term, mixed_difference_term, quat_norm2_term}

-- r a is near m e: their difference is at most r, and their sum at most twice m e
pub record IsPart (r m : ℕ) (a e : ℤ) : Type 0 where
  pub less : unsigned_abs (pos r *ℤ a -ℤ pos m *ℤ e) ≤ r
  pub more : unsigned_abs (pos r *ℤ a +ℤ pos m *ℤ e) ≤ 2 * (m * unsigned_abs e)

-- the difference of one component, times the sum of another
abbrev crossed : ℕ → ℕ → ℤ → ℤ → ℤ → ℤ → ℤ
crossed r m a e b f = (pos r *ℤ a -ℤ pos m *ℤ e) *ℤ (pos r *ℤ b +ℤ pos m *ℤ f)

crossed_le : (r m : ℕ) (a e b f : ℤ) → IsPart r m a e → IsPart r m b f → unsigned_abs (crossed r m a e b f) ≤ r * (2 * (m * unsigned_abs f))
crossed_le r m a e b f h k =
    let size : unsigned_abs (crossed r m a e b f) ≡ unsigned_abs (pos r *ℤ a -ℤ pos m *ℤ e) * unsigned_abs (pos r *ℤ b +ℤ pos m *ℤ f) =
    unsigned_abs-mul (pos r *ℤ a -ℤ pos m *ℤ e) (pos r *ℤ b +ℤ pos m *ℤ f) in
    let most : unsigned_abs (pos r *ℤ a -ℤ pos m *ℤ e) * unsigned_abs (pos r *ℤ b +ℤ pos m *ℤ f) ≤ r * (2 * (m * unsigned_abs f)) =
    mul-le (unsigned_abs (pos r *ℤ a -ℤ pos m *ℤ e)) (unsigned_abs (pos r *ℤ b +ℤ pos m *ℤ f)) r (2 * (m * unsigned_abs f)) h.less k.more in
    omega arith

-- how far the forms of two quaternions whose components are near can be apart
abbrev pub gap_of : ℕ → ℕ → ℤ → ℤ → ℤ → ℤ → ℕ
gap_of r m e f g h = r * (2 * (m * (unsigned_abs e + unsigned_abs f + unsigned_abs g + unsigned_abs h)))

-- a multiple of one form less a multiple of another
abbrev pub scaled_gap : ℕ → ℕ → ℤ → ℤ → ℤ
scaled_gap r m h g = (pos r *ℤ pos r) *ℤ h -ℤ (pos m *ℤ pos m) *ℤ g

four_parts : (r m i j k l : ℕ) (x y z w : ℤ) → unsigned_abs x ≤ r * (2 * (m * i)) → unsigned_abs y ≤ r * (2 * (m * j)) → unsigned_abs z ≤ r * (2 * (m * k)) → unsigned_abs w ≤ r * (2 * (m * l))
    → (unsigned_abs (x +ℤ y +ℤ z +ℤ w) ≤ r * (2 * (m * (i + j + k + l)))) × (unsigned_abs (x +ℤ y -ℤ z -ℤ w) ≤ r * (2 * (m * (i + j + k + l))))
four_parts r m i j k l x y z w hx hy hz hw = (omega (arith, ints), omega (arith, ints))

abbrev letters : ℕ → ℕ → ℤ → ℤ → ℤ → ℤ → ℤ → ℤ → ℤ → ℤ → List ℤ
letters r m a b c d e f g h = pos r ∷ pos m ∷ a ∷ b ∷ c ∷ d ∷ e ∷ f ∷ g ∷ h ∷ []

abbrev crossed_term : Term → Term → Term → Term → Term
crossed_term a e b f = times (minus (times (var 0) a) (times (var 1) e)) (plus (times (var 0) b) (times (var 1) f))

abbrev gap_term : (Term → Term → Term → Term → Term) → Term
gap_term form = minus (times (times (var 0) (var 0)) (form (var 2) (var 3) (var 4) (var 5))) (times (times (var 1) (var 1)) (form (var 6) (var 7) (var 8) (var 9)))

-- each component with itself, or the first with the second and the third with the fourth
abbrev own_a : Term
own_a = crossed_term (var 2) (var 6) (var 2) (var 6)

abbrev own_b : Term
own_b = crossed_term (var 3) (var 7) (var 3) (var 7)

abbrev own_c : Term
own_c = crossed_term (var 4) (var 8) (var 4) (var 8)

abbrev own_d : Term
own_d = crossed_term (var 5) (var 9) (var 5) (var 9)

abbrev a_with_b : Term
a_with_b = plus (crossed_term (var 2) (var 6) (var 3) (var 7)) (crossed_term (var 3) (var 7) (var 2) (var 6))

axial-gap : (r m : ℕ) (a b c d e f g h : ℤ) → scaled_gap r m (axial a b c d) (axial e f g h)
    ≡ crossed r m a e a e +ℤ crossed r m b f b f -ℤ crossed r m c g c g -ℤ crossed r m d h d h
unfolding axial
axial-gap r m a b c d e f g h = identity (letters r m a b c d e f g h) (gap_term axial_term) (minus (minus (plus own_a own_b) own_c) own_d) refl

norm2-gap : (r m : ℕ) (a b c d e f g h : ℤ) → scaled_gap r m (a *ℤ a +ℤ b *ℤ b +ℤ c *ℤ c +ℤ d *ℤ d) (e *ℤ e +ℤ f *ℤ f +ℤ g *ℤ g +ℤ h *ℤ h)
    ≡ crossed r m a e a e +ℤ crossed r m b f b f +ℤ crossed r m c g c g +ℤ crossed r m d h d h
norm2-gap r m a b c d e f g h = identity (letters r m a b c d e f g h) (gap_term quat_norm2_term) (plus (plus (plus own_a own_b) own_c) own_d) refl

mixed_sum-gap : (r m : ℕ) (a b c d e f g h : ℤ) → scaled_gap r m (mixed_sum a b c d) (mixed_sum e f g h)
    ≡ crossed r m a e b f +ℤ crossed r m b f a e +ℤ crossed r m c g d h +ℤ crossed r m d h c g
unfolding mixed_sum
mixed_sum-gap r m a b c d e f g h = identity (letters r m a b c d e f g h) (gap_term mixed_sum_term)
    (plus (plus a_with_b (crossed_term (var 4) (var 8) (var 5) (var 9))) (crossed_term (var 5) (var 9) (var 4) (var 8)))
    refl

mixed_difference-gap : (r m : ℕ) (a b c d e f g h : ℤ) → scaled_gap r m (mixed_difference a b c d) (mixed_difference e f g h)
    ≡ crossed r m a e b f +ℤ crossed r m b f a e -ℤ crossed r m c g d h -ℤ crossed r m d h c g
unfolding mixed_difference
mixed_difference-gap r m a b c d e f g h = identity (letters r m a b c d e f g h) (gap_term mixed_difference_term)
    (minus (minus a_with_b (crossed_term (var 4) (var 8) (var 5) (var 9))) (crossed_term (var 5) (var 9) (var 4) (var 8)))
    refl

-- how far the forms on the diagonal are apart
pub axial-gap_le : (r m : ℕ) (a b c d e f g h : ℤ) → IsPart r m a e → IsPart r m b f → IsPart r m c g → IsPart r m d h
    → unsigned_abs (scaled_gap r m (axial a b c d) (axial e f g h)) ≤ gap_of r m e f g h
axial-gap_le r m a b c d e f g h pa pb pc pd = rw (axial-gap r m a b c d e f g h)
    (four_parts r m (unsigned_abs e) (unsigned_abs f) (unsigned_abs g) (unsigned_abs h) (crossed r m a e a e) (crossed r m b f b f) (crossed r m c g c g) (crossed r m d h d h)
    (crossed_le r m a e a e pa pa) (crossed_le r m b f b f pb pb) (crossed_le r m c g c g pc pc) (crossed_le r m d h d h pd pd)).1

-- how far the squared lengths are apart
pub norm2-gap_le : (r m : ℕ) (a b c d e f g h : ℤ) → IsPart r m a e → IsPart r m b f → IsPart r m c g → IsPart r m d h
    → unsigned_abs (scaled_gap r m (a *ℤ a +ℤ b *ℤ b +ℤ c *ℤ c +ℤ d *ℤ d) (e *ℤ e +ℤ f *ℤ f +ℤ g *ℤ g +ℤ h *ℤ h)) ≤ gap_of r m e f g h
norm2-gap_le r m a b c d e f g h pa pb pc pd = rw (norm2-gap r m a b c d e f g h)
    (four_parts r m (unsigned_abs e) (unsigned_abs f) (unsigned_abs g) (unsigned_abs h) (crossed r m a e a e) (crossed r m b f b f) (crossed r m c g c g) (crossed r m d h d h)
    (crossed_le r m a e a e pa pa) (crossed_le r m b f b f pb pb) (crossed_le r m c g c g pc pc) (crossed_le r m d h d h pd pd)).0

-- how far the forms off the diagonal are apart, where the products are summed
pub mixed_sum-gap_le : (r m : ℕ) (a b c d e f g h : ℤ) → IsPart r m a e → IsPart r m b f → IsPart r m c g → IsPart r m d h
    → unsigned_abs (scaled_gap r m (mixed_sum a b c d) (mixed_sum e f g h)) ≤ gap_of r m f e h g
mixed_sum-gap_le r m a b c d e f g h pa pb pc pd = rw (mixed_sum-gap r m a b c d e f g h)
    (four_parts r m (unsigned_abs f) (unsigned_abs e) (unsigned_abs h) (unsigned_abs g) (crossed r m a e b f) (crossed r m b f a e) (crossed r m c g d h) (crossed r m d h c g)
    (crossed_le r m a e b f pa pb) (crossed_le r m b f a e pb pa) (crossed_le r m c g d h pc pd) (crossed_le r m d h c g pd pc)).0

-- and where the second product is taken away
pub mixed_difference-gap_le : (r m : ℕ) (a b c d e f g h : ℤ) → IsPart r m a e → IsPart r m b f → IsPart r m c g → IsPart r m d h
    → unsigned_abs (scaled_gap r m (mixed_difference a b c d) (mixed_difference e f g h)) ≤ gap_of r m f e h g
mixed_difference-gap_le r m a b c d e f g h pa pb pc pd = rw (mixed_difference-gap r m a b c d e f g h)
    (four_parts r m (unsigned_abs f) (unsigned_abs e) (unsigned_abs h) (unsigned_abs g) (crossed r m a e b f) (crossed r m b f a e) (crossed r m c g d h) (crossed r m d h c g)
    (crossed_le r m a e b f pa pb) (crossed_le r m b f a e pb pa) (crossed_le r m c g d h pc pd) (crossed_le r m d h c g pd pc)).1
