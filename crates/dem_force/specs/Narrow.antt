-- Forces from the factors of overlap, of displacement and of speed, each of which is made once a contact.
use Rattle.std.specs.Prelude.{ℕ, ℤ, pos, ◌*◌, ◌-ℤ◌, ◌*ℤ◌, unsigned_abs}
use Rattle.std.specs.Int.{int_max, int_min}
use Rattle.dem_num.specs.Numbers.{shifted, clamped, opposite}
use Rattle.dem_num.specs.declared.vector.Vec3.{Vec3}
use Rattle.dem_num.specs.declared.vector.Wide3.{Wide3}
use Rattle.dem_model.specs.declared.limits.TheConstants.{MAX_FORCE}

-- the force along the normal: elastic less damping, from 0 to its greatest
unfoldable pub pressing_of : ℕ → ℕ → ℕ → ℤ → ℕ
pressing_of stiffness factor delta speed =
    unsigned_abs (int_max (pos 0) (int_min (shifted (pos (stiffness * delta)) 16 -ℤ shifted (pos factor *ℤ speed) 32) (pos MAX_FORCE)))

-- a component of the tangential force before friction bounds it: elastic and damped
unfoldable pub pull_of : ℕ → ℕ → ℤ → ℤ → ℤ
pull_of stiffness factor h slip = clamped (opposite (shifted (pos stiffness *ℤ h) 32) -ℤ shifted (pos factor *ℤ slip) 32) (pos MAX_FORCE)

-- the tangential force before friction bounds it
abbrev pub pulls_of : ℕ → ℕ → Vec3 → Vec3 → Wide3
pulls_of stiffness factor h slip = record {
  x = pull_of stiffness factor h.x slip.x;
  y = pull_of stiffness factor h.y slip.y;
  z = pull_of stiffness factor h.z slip.z;
}
