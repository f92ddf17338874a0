-- No component of a plane's unit normal is above 2^30 in size.
use Rattle.std.proofs.Common.{◌≡◌, ℕ, ◌*◌, ◌^◌, ◌<◌, ◌≤◌, arith, ℤ, pos, unsigned_abs, false, ◌*ℤ◌}
use Rattle.std.proofs.lemmas.Int.{unsigned_abs-mul}
use Rattle.dem_num.specs.declared.vector.Vec3.{Vec3}
use Rattle.dem_num.specs.Numbers.{root_of}
use Rattle.dem_num.specs.Vectors.{widened, norm2_of, is_zero, scaled, Within}
use Rattle.dem_num.proofs.RootFacts.{root_positive}
use Rattle.dem_num.proofs.VectorSizes.{quotients_within}
use Rattle.dem_model.specs.Touch.{unit_of}
use Rattle.dem_wall.proofs.DirectionFacts.{fine_part_x, fine_part_y, fine_part_z, norm2_positive}

-- a component times 2^70 is at most 2^30 times what is no less than the component times 2^40
fine_component : (x : ℤ) (length : ℕ) → 2 ^ 40 * unsigned_abs x ≤ length → unsigned_abs (pos (2 ^ 70) *ℤ x) ≤ 2 ^ 30 * length
fine_component x length h =
    let size : unsigned_abs (pos (2 ^ 70) *ℤ x) ≡ 2 ^ 70 * unsigned_abs x = unsigned_abs-mul (pos (2 ^ 70)) x in
    omega arith

pub unit_of-within : (dir : Vec3) → is_zero (widened dir) ≡ false → Within (widened (unit_of dir)) (2 ^ 30)
unfolding unit_of
unit_of-within dir some =
    let length : ℕ = root_of (2 ^ 80 * norm2_of (widened dir)) in
    let positive : 0 < root_of (2 ^ 80 * norm2_of (widened dir)) =
    root_positive (2 ^ 80 * norm2_of (widened dir)) (omega (arith, norm2_positive (widened dir) some)) in
    let fine : Within (scaled (pos (2 ^ 70)) (widened dir)) (2 ^ 30 * root_of (2 ^ 80 * norm2_of (widened dir))) =
    record {
      x = fine_component dir.x _ (fine_part_x (2 ^ 40) (widened dir));
      y = fine_component dir.y _ (fine_part_y (2 ^ 40) (widened dir));
      z = fine_component dir.z _ (fine_part_z (2 ^ 40) (widened dir));
    } in
    quotients_within (scaled (pos (2 ^ 70)) (widened dir)) (pos (root_of (2 ^ 80 * norm2_of (widened dir)))) (2 ^ 30 * root_of (2 ^ 80 * norm2_of (widened dir))) (2 ^ 30) positive fine (omega arith)
