-- A body that neither spins nor is turned keeps no spin.
use Rattle.std.proofs.Common.{◌≡◌, ℤ, pos, true, refl, ap, ◌∙◌, arith, unsigned_abs}
use Rattle.std.specs.Prelude.{◌+ℤ◌, ◌-ℤ◌, ◌*ℤ◌}
use Rattle.std.proofs.Math.Nat.{zero-div}
use Rattle.dem_num.specs.declared.vector.Vec3.{Vec3}
use Rattle.dem_num.specs.declared.vector.Wide3.{Wide3}
use Rattle.dem_num.specs.declared.vector.Rows.{Rows}
use Rattle.dem_num.specs.Numbers.{quotient, shifted, clamped}
use Rattle.dem_num.specs.Vectors.{widened, is_zero, no_vector, clamped_each, dot_of}
use Rattle.dem_num.specs.Rotations.{matrix_of, turned_back_by, column_x, column_y, column_z}
use Rattle.dem_num.proofs.Sizes.{quotient-size}
use Rattle.dem_turn.proofs.StillFacts.{is_zero-no_vector}
use Rattle.dem_model.specs.Advance.{body_torque_of, spin_component, spin_after}
use Rattle.dem_model.specs.declared.limits.TheConstants.{MAX_TORQUE}
use Rattle.dem_model.specs.declared.state.Body.{Body}

no_size : (z : ℤ) → unsigned_abs z ≡ 0 → z ≡ pos 0
no_size z h = grind arith

quotient_nothing : (m : ℤ) → quotient (pos 0) m ≡ pos 0
quotient_nothing m =
    let e : unsigned_abs (quotient (pos 0) m) ≡ 0 = quotient-size (pos 0) m ∙ zero-div (unsigned_abs m) in
    no_size (quotient (pos 0) m) e

times_nothing : (a : ℤ) → a *ℤ pos 0 ≡ pos 0
times_nothing a = grind arith

gyration_nothing : (d : ℤ) → d *ℤ pos 0 *ℤ pos 0 ≡ pos 0
gyration_nothing d = times_nothing (d *ℤ pos 0)

shifted_nothing : shifted (pos 0) 30 ≡ pos 0
unfolding shifted
shifted_nothing = refl

component_nothing : (own first second : ℤ) → spin_component (pos 0) (pos 0) own first second (pos 0) (pos 0) ≡ pos 0
unfolding spin_component
component_nothing own first second =
    ap (λ (z : ℤ). pos 0 +ℤ quotient (pos 0 +ℤ shifted z 30) own) (gyration_nothing (first -ℤ second))
    ∙ ap (λ (z : ℤ). pos 0 +ℤ quotient (pos 0 +ℤ z) own) shifted_nothing
    ∙ ap (λ (z : ℤ). pos 0 +ℤ z) (quotient_nothing own)

abbrev spins : Vec3 → Wide3 → Wide3 → Wide3
spins j w t = record {
  x = spin_component w.x t.x j.x j.y j.z w.y w.z;
  y = spin_component w.y t.y j.y j.z j.x w.z w.x;
  z = spin_component w.z t.z j.z j.x j.y w.x w.y;
}

spins_nothing : (j : Vec3) → spins j no_vector no_vector ≡ no_vector
spins_nothing j = rw (component_nothing j.x j.y j.z, component_nothing j.y j.z j.x, component_nothing j.z j.x j.y) refl

dot_nothing : (a : Wide3) → dot_of a no_vector ≡ pos 0
unfolding dot_of
dot_nothing a = grind arith

back_nothing : (m : Rows) → turned_back_by m no_vector ≡ no_vector
unfolding turned_back_by shifted
back_nothing m = rw (dot_nothing (column_x m), dot_nothing (column_y m), dot_nothing (column_z m)) refl

clamped_nothing : clamped_each no_vector (pos MAX_TORQUE) ≡ no_vector
unfolding clamped
clamped_nothing = refl

body_torque_nothing : (b : Body) → body_torque_of b no_vector ≡ no_vector
unfolding body_torque_of
body_torque_nothing b = ap (turned_back_by (matrix_of b.q)) clamped_nothing ∙ back_nothing (matrix_of b.q)

-- without spin and torque there is no spin afterwards
pub spin_still : (j : Vec3) (b : Body) (torque : Wide3) → is_zero (widened b.w) ≡ true → is_zero torque ≡ true → spin_after j b.w (body_torque_of b torque) ≡ no_vector
unfolding spin_after
spin_still j b torque ew et =
    ap (λ (t : Wide3). spins j (widened b.w) (body_torque_of b t)) (is_zero-no_vector torque et)
    ∙ ap (spins j (widened b.w)) (body_torque_nothing b)
    ∙ ap (λ (u : Wide3). spins j u no_vector) (is_zero-no_vector (widened b.w) ew)
    ∙ spins_nothing j
