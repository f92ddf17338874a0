-- A stand isn't turned: its spheres are where their offsets say.
use Rattle.std.proofs.Common.{◌≡◌, ℕ, suc, ◌+◌, ◌*◌, ◌/◌, ℤ, pos, negsuc, neg_ℤ, arith, refl, ap, ◌∙◌}
use Rattle.std.specs.Prelude.{◌*ℤ◌}
use Rattle.std.specs.Int.{int_shr}
use Rattle.dem_num.specs.declared.vector.Rows.{Rows}
use Rattle.dem_num.specs.declared.vector.Wide3.{Wide3}
use Rattle.dem_num.specs.Numbers.{quotient, shifted}
use Rattle.dem_num.specs.Rotations.{quat_norm2_of, matrix_of, turned_by, matrix_entry_of, axial, mixed_sum, mixed_difference}
use Rattle.dem_num.specs.Vectors.{widened, dot_of, sum_of}
use Rattle.dem_model.specs.Centers.{still_body}
use Rattle.dem_model.specs.Packing.{center_in}
use Rattle.dem_model.specs.Spheres.{center_of}
use Rattle.dem_model.specs.declared.shape.Ball.{Ball}
use Rattle.dem_model.specs.declared.state.Stand.{Stand}

-- a number times 2^30, shifted back
back : (z : ℤ) → shifted (pos 1073741824 *ℤ z) 30 ≡ z
unfolding shifted
back (pos n) = ap (λ (m : ℕ). pos m) (omega arith)
back (negsuc n) =
    let m = 1073741824 * n + 1073741823 in
    let size : 1073741824 * suc n ≡ suc m = omega arith in
    let low : m / 1073741824 ≡ n = omega arith in
    ap (λ (k : ℕ). int_shr (neg_ℤ (pos k)) 30) size ∙ ap (λ (k : ℕ). negsuc k) low

-- the matrix that turns nothing
abbrev unit_rows : Rows
unit_rows = record {
  x = record { x = pos 1073741824; y = pos 0; z = pos 0 };
  y = record { x = pos 0; y = pos 1073741824; z = pos 0 };
  z = record { x = pos 0; y = pos 0; z = pos 1073741824 };
}

still_rows : matrix_of still_body.q ≡ unit_rows
unfolding matrix_of matrix_entry_of axial mixed_sum mixed_difference quotient quat_norm2_of
still_rows = refl

along-x : (o : Wide3) → dot_of (widened unit_rows.x) o ≡ pos 1073741824 *ℤ o.x
unfolding dot_of
along-x o = grind arith

along-y : (o : Wide3) → dot_of (widened unit_rows.y) o ≡ pos 1073741824 *ℤ o.y
unfolding dot_of
along-y o = grind arith

along-z : (o : Wide3) → dot_of (widened unit_rows.z) o ≡ pos 1073741824 *ℤ o.z
unfolding dot_of
along-z o = grind arith

unturned : (o : Wide3) → turned_by unit_rows o ≡ o
unfolding turned_by
unturned o = λ i. record {
  x = (ap (λ (z : ℤ). shifted z 30) (along-x o) ∙ back o.x) i;
  y = (ap (λ (z : ℤ). shifted z 30) (along-y o) ∙ back o.y) i;
  z = (ap (λ (z : ℤ). shifted z 30) (along-z o) ∙ back o.z) i;
}

-- the center of a sphere of a stand
pub center-is : (x : Stand) (b : Ball) → center_in x b ≡ sum_of (widened x.p) (widened b.at)
unfolding center_of
center-is x b = ap (λ (m : Rows). sum_of (widened x.p) (turned_by m (widened b.at))) still_rows ∙ ap (sum_of (widened x.p)) (unturned (widened b.at))
