-- A vector of zeros stays one, however it is turned.
use Rattle.std.proofs.Common.{◌≡◌, ℤ, pos, arith, true, refl, ap, ◌∙◌, unsigned_abs}
use Rattle.std.specs.Prelude.{◌&&◌, ◌==◌}
use Rattle.std.proofs.lemmas.Bool.{and_parts, eqb-true}
use Rattle.dem_num.specs.declared.vector.Wide3.{Wide3}
use Rattle.dem_num.specs.declared.vector.Rows.{Rows}
use Rattle.dem_num.specs.Numbers.{shifted}
use Rattle.dem_num.specs.Vectors.{widened, is_zero, no_vector, sum_of, dot_of}
use Rattle.dem_num.specs.Rotations.{turned_by}

-- a number without size is zero
no_size : (z : ℤ) → unsigned_abs z ≡ 0 → z ≡ pos 0
no_size z h = grind arith

-- what is tested to be zero is zero
pub is_zero-no_vector : (o : Wide3) → is_zero o ≡ true → o ≡ no_vector
is_zero-no_vector o h =
    let parts = and_parts ((unsigned_abs o.x == 0) && (unsigned_abs o.y == 0)) (unsigned_abs o.z == 0) h in
    let two = and_parts (unsigned_abs o.x == 0) (unsigned_abs o.y == 0) parts.0 in
    let x : o.x ≡ pos 0 = no_size o.x (eqb-true (unsigned_abs o.x) 0 two.0) in
    let y : o.y ≡ pos 0 = no_size o.y (eqb-true (unsigned_abs o.y) 0 two.1) in
    let z : o.z ≡ pos 0 = no_size o.z (eqb-true (unsigned_abs o.z) 0 parts.1) in
    ap (λ (u : ℤ). record { x = u; y = o.y; z = o.z }) x ∙ ap (λ (u : ℤ). record { x = pos 0; y = u; z = o.z }) y ∙ ap (λ (u : ℤ). record { x = pos 0; y = pos 0; z = u }) z

-- the sum of the products with zeros
dot_nothing : (a : Wide3) → dot_of a no_vector ≡ pos 0
unfolding dot_of
dot_nothing a = grind arith

-- zeros, turned
turned_nothing : (m : Rows) → turned_by m no_vector ≡ no_vector
unfolding turned_by shifted
turned_nothing m = rw (dot_nothing (widened m.x), dot_nothing (widened m.y), dot_nothing (widened m.z)) refl

-- a vector of zeros, turned
pub turned_zero : (m : Rows) (o : Wide3) → is_zero o ≡ true → turned_by m o ≡ no_vector
turned_zero m o h = ap (turned_by m) (is_zero-no_vector o h) ∙ turned_nothing m

-- a place moved by zeros
pub sum_nothing : (p : Wide3) → sum_of p no_vector ≡ p
sum_nothing p = grind arith

-- a place moved by a vector of zeros that is turned
pub sum_turned_zero : (p : Wide3) (m : Rows) (o : Wide3) → is_zero o ≡ true → sum_of p (turned_by m o) ≡ p
sum_turned_zero p m o h = ap (sum_of p) (turned_zero m o h) ∙ sum_nothing p
