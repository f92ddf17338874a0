-- How far a sphere may move in one step, at most.
use Rattle.std.proofs.Common.{ℕ, ◌+◌, ◌-◌, ◌*◌, ◌/◌, ◌^◌, ◌<◌, ◌≤◌, arith, inl, inr}
use Rattle.std.proofs.lemmas.Nat.{mul-le, div_below}
use Rattle.std.proofs.lemmas.Bool.{cases_Bool}
use Rattle.dem_num.specs.Vectors.{widened, norm2_of, is_zero}
use Rattle.dem_num.specs.Rotations.{arm_of, swing_limit_of}
use Rattle.dem_num.specs.Numbers.{root_of}
use Rattle.dem_num.proofs.RootFacts.{root_le}
use Rattle.dem_num.proofs.VectorSizes.{norm2_le}
use Rattle.dem_model.specs.SceneValue.{SceneValue}
use Rattle.dem_model.specs.Sound.{IsSound, IsBall}
use Rattle.dem_model.specs.Motion.{per_step_of}
use Rattle.dem_model.specs.declared.shape.Ball.{Ball}
use Rattle.dem_model.specs.declared.limits.TheConstants.{VOXEL}

-- the arm of a sphere of a template
arm-small : (m : ℕ) (b : Ball) → IsBall m b → arm_of (widened b.at) ≤ 2 ^ 27
unfolding arm_of
arm-small m b h =
    let square : norm2_of (widened b.at) ≤ 3 * (2 ^ 26 * 2 ^ 26) = norm2_le (widened b.at) (2 ^ 26) h.at in
    let root : root_of (norm2_of (widened b.at)) ≤ 2 ^ 27 - 1 = root_le (norm2_of (widened b.at)) (2 ^ 27 - 1) (omega arith) in
    elim (cases_Bool (is_zero (widened b.at))) [
      | inl e ↦ rw e (omega arith)
      | inr e ↦ rw e (omega arith)
    ]

-- the swing of an arm
swing-small : (spin arm : ℕ) → spin ≤ 2 ^ 28 → arm ≤ 2 ^ 27 → swing_limit_of spin arm ≤ 2 ^ 26 + 16
unfolding swing_limit_of
swing-small spin arm h k =
    let product : spin * arm ≤ 2 ^ 28 * 2 ^ 27 = mul-le spin arm (2 ^ 28) (2 ^ 27) h k in
    let turn : 2 * spin * arm / 2 ^ 30 < 2 ^ 26 + 1 = div_below (2 * spin * arm) (2 ^ 30) (2 ^ 26 + 1) (omega arith) (omega arith) in
    let rest : arm / 2 ^ 24 < 9 = div_below arm (2 ^ 24) 9 (omega arith) (omega arith) in
    omega arith

-- a sphere moves less than this in one step
pub per_step-small : (s : SceneValue) (b : Ball) (m : ℕ) → IsSound s → IsBall m b → per_step_of s b ≤ 2 ^ 27
unfolding per_step_of
per_step-small s b m sound ball =
    let fall : (s.speed + (VOXEL - 1)) / VOXEL < 2 ^ 24 + 1 = div_below (s.speed + (VOXEL - 1)) VOXEL (2 ^ 24 + 1) (omega arith) (omega (arith, sound.speed.le_high)) in
    omega (arith, swing-small s.spin (arm_of (widened b.at)) sound.spin.le_high (arm-small m b ball))
