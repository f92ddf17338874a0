-- Stands at cells are clear of each other.
use Rattle.std.proofs.Common.{◌≡◌, ℕ, ◌+◌, ◌*◌, ◌≤◌, ◌⊎◌, ℤ, true, List, [], ◌∷◌, None, arith, refl, ⊎_elim, subst}
use Rattle.std.specs.Prelude.{All, ◌+ℤ◌, ◌-ℤ◌, unsigned_abs, ◌==◌, ◌&&◌}
use Rattle.std.proofs.lemmas.Bool.{le-ltb, false≢true, and_parts, eqb-true}
use Rattle.std.proofs.lemmas.Int.{ints}
use Rattle.std.proofs.lemmas.Nat.{mul-le}
use Rattle.std.proofs.lemmas.List.Elements.{All-nil, All-cons}
use Rattle.dem_num.specs.declared.vector.Vec3.{Vec3}
use Rattle.dem_num.specs.declared.vector.Wide3.{Wide3}
use Rattle.dem_num.specs.Vectors.{widened, difference_of, norm2_of, sum_of, is_zero}
use Rattle.dem_model.specs.Cells.{extent_of, pitch_of, reach_of}
use Rattle.dem_model.specs.Packing.{AreClear}
use Rattle.dem_model.specs.Touch.{spheres_touch}
use Rattle.dem_model.specs.declared.shape.Ball.{Ball}
use Rattle.dem_pack.specs.Asks.{is_one_sphere}
use Rattle.dem_pack.proofs.ApartFacts.{AreSplit, AreFar}
use Rattle.dem_pack.proofs.InsideFacts.{reach-x, reach-y, reach-z}

no-touch : (gap : ℕ) (a b : Wide3) (ra rb : ℕ) → (ra + rb + gap) * (ra + rb + gap) ≤ norm2_of (difference_of a b) → spheres_touch (difference_of a b) (ra + rb) ≡ None
unfolding spheres_touch
no-touch gap a b ra rb far =
    let less = mul-le (ra + rb) (ra + rb) (ra + rb + gap) (ra + rb + gap) (omega arith) (omega arith) in
    rw (le-ltb (norm2_of (difference_of a b)) ((ra + rb) * (ra + rb)) (omega (arith, less, far))) refl

-- two spheres whose centers are far enough apart are clear of each other
pub clear-by-length : (gap : ℕ) (a b : Wide3) (ra rb : ℕ) → (ra + rb + gap) * (ra + rb + gap) ≤ norm2_of (difference_of a b) → AreClear gap a b ra rb
clear-by-length gap a b ra rb far = record { untouched = no-touch gap a b ra rb far; apart = far }

-- a number of the axes of a difference
axis-x : (d : ℕ) (v : Wide3) → d ≤ unsigned_abs v.x → d * d ≤ norm2_of v
unfolding norm2_of
axis-x d v le = let more = mul-le d d (unsigned_abs v.x) (unsigned_abs v.x) le le in omega (arith, more)

axis-y : (d : ℕ) (v : Wide3) → d ≤ unsigned_abs v.y → d * d ≤ norm2_of v
unfolding norm2_of
axis-y d v le = let more = mul-le d d (unsigned_abs v.y) (unsigned_abs v.y) le le in omega (arith, more)

axis-z : (d : ℕ) (v : Wide3) → d ≤ unsigned_abs v.z → d * d ≤ norm2_of v
unfolding norm2_of
axis-z d v le = let more = mul-le d d (unsigned_abs v.z) (unsigned_abs v.z) le le in omega (arith, more)

-- on one axis: positions a pitch apart, and offsets that reach no farther
axis-clear : (p q o u : ℤ) (extent gap ra rb : ℕ) → pitch_of extent gap ≤ unsigned_abs (p -ℤ q) → unsigned_abs o + ra ≤ extent → unsigned_abs u + rb ≤ extent
    → ra + rb + gap ≤ unsigned_abs ((p +ℤ o) -ℤ (q +ℤ u))
unfolding pitch_of
axis-clear p q o u extent gap ra rb apart first second = omega (arith, ints)

-- spheres of two cells of a grid
pub clear-on-grid : (gap extent : ℕ) (p q : Vec3) (a b : Ball) → AreSplit (pitch_of extent gap) p q → reach_of a ≤ extent → reach_of b ≤ extent
    → AreClear gap (sum_of (widened p) (widened a.at)) (sum_of (widened q) (widened b.at)) a.r b.r
clear-on-grid gap extent p q a b apart first second =
    let u = sum_of (widened p) (widened a.at) in
    let v = sum_of (widened q) (widened b.at) in
    let d = pitch_of extent gap in
    let sum = a.r + b.r + gap in
    clear-by-length gap u v a.r b.r
    (⊎_elim
    (λ (h : d ≤ unsigned_abs (p.x -ℤ q.x)). axis-x sum (difference_of u v) (axis-clear p.x q.x a.at.x b.at.x extent gap a.r b.r h (reach-x a extent first) (reach-x b extent second)))
    (λ (other : (d ≤ unsigned_abs (p.y -ℤ q.y)) ⊎ (d ≤ unsigned_abs (p.z -ℤ q.z))). ⊎_elim
    (λ (h : d ≤ unsigned_abs (p.y -ℤ q.y)). axis-y sum (difference_of u v) (axis-clear p.y q.y a.at.y b.at.y extent gap a.r b.r h (reach-y a extent first) (reach-y b extent second)))
    (λ (h : d ≤ unsigned_abs (p.z -ℤ q.z)). axis-z sum (difference_of u v) (axis-clear p.z q.z a.at.z b.at.z extent gap a.r b.r h (reach-z a extent first) (reach-z b extent second)))
    other)
    apart)

same-offset : (p q o : ℤ) → p -ℤ q ≡ (p +ℤ o) -ℤ (q +ℤ o)
same-offset p q o = omega (arith, ints)

moved-alike : (p q o : Wide3) → difference_of p q ≡ difference_of (sum_of p o) (sum_of q o)
moved-alike p q o = λ i. record { x = same-offset p.x q.x o.x i; y = same-offset p.y q.y o.y i; z = same-offset p.z q.z o.z i }

-- the extent of one sphere without an offset
one-extent : (b : Ball) → is_zero (widened b.at) ≡ true → extent_of (b ∷ []) ≡ b.r
unfolding extent_of reach_of
one-extent b none =
    let parts = and_parts ((unsigned_abs b.at.x == 0) && (unsigned_abs b.at.y == 0)) (unsigned_abs b.at.z == 0) none in
    let two = and_parts (unsigned_abs b.at.x == 0) (unsigned_abs b.at.y == 0) parts.0 in
    let x = eqb-true (unsigned_abs b.at.x) 0 two.0 in
    let y = eqb-true (unsigned_abs b.at.y) 0 two.1 in
    let z = eqb-true (unsigned_abs b.at.z) 0 parts.1 in
    omega (arith, x, y, z)

clear-one : (gap : ℕ) (p q : Vec3) (b : Ball) → is_zero (widened b.at) ≡ true → AreFar (pitch_of (extent_of (b ∷ [])) gap) p q
    → AreClear gap (sum_of (widened p) (widened b.at)) (sum_of (widened q) (widened b.at)) b.r b.r
unfolding pitch_of
clear-one gap p q b one far =
    let same : 2 * extent_of (b ∷ []) + gap ≡ b.r + b.r + gap = omega (arith, one-extent b one) in
    clear-by-length gap (sum_of (widened p) (widened b.at)) (sum_of (widened q) (widened b.at)) b.r b.r
    (subst (λ (v : Wide3). (b.r + b.r + gap) * (b.r + b.r + gap) ≤ norm2_of v) (moved-alike (widened p) (widened q) (widened b.at))
    (subst (λ d. d * d ≤ norm2_of (difference_of (widened p) (widened q))) same far))

-- spheres of two cells of staggered layers
pub clear-staggered : (gap : ℕ) (p q : Vec3) (balls : List Ball) → is_one_sphere balls ≡ true → AreFar (pitch_of (extent_of balls) gap) p q
    → All (λ (a : Ball). All (λ (b : Ball). AreClear gap (sum_of (widened p) (widened a.at)) (sum_of (widened q) (widened b.at)) a.r b.r) balls) balls
unfolding is_one_sphere
clear-staggered gap p q [] one far = absurd (false≢true one)
clear-staggered gap p q (b ∷ c ∷ bs) one far = absurd (false≢true one)
clear-staggered gap p q (b ∷ []) one far =
    let Clear = λ (a c : Ball). AreClear gap (sum_of (widened p) (widened a.at)) (sum_of (widened q) (widened c.at)) a.r c.r in
    let clear : Clear b b = clear-one gap p q b one far in
    All-cons (λ (a : Ball). All (Clear a) (b ∷ [])) b [] (All-cons (Clear b) b [] clear (All-nil (Clear b))) (All-nil (λ (a : Ball). All (Clear a) (b ∷ [])))
