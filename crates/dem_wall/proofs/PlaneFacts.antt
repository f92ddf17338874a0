-- When a sphere touches a plane, over plain numbers.
use Rattle.std.proofs.Common.{◌≡◌, ℕ, ℤ, pos, ◌-ℤ◌, true, false, Some, None, Option, refl}
use Rattle.std.specs.Prelude.{int_lt}
use Rattle.std.specs.Int.{int_min}
use Rattle.dem_num.specs.declared.vector.Vec3.{Vec3}
use Rattle.dem_num.specs.Numbers.{shifted}
use Rattle.dem_num.specs.Vectors.{widened, difference_of, dot_of}
use Rattle.dem_model.specs.declared.law.Touch.{Touch}
use Rattle.dem_model.specs.declared.limits.TheConstants.{MAX_OVERLAP}
use Rattle.dem_model.specs.Touch.{unit_of, gap_of, plane_touch}

-- the gap is that of the definition
pub gap_from : (at dir c n : Vec3) (g : ℤ) → n ≡ unit_of dir → g ≡ shifted (dot_of (widened n) (difference_of (widened c) (widened at))) 30 → g ≡ gap_of at dir c
unfolding gap_of
gap_from at dir c n g e f = cc

-- where the gap is less than the radius the sphere touches
pub plane_touches : (at dir c n : Vec3) (r : ℕ) (g d : ℤ) → n ≡ unit_of dir → g ≡ gap_of at dir c → int_lt g (pos r) ≡ true → d ≡ int_min (pos r -ℤ g) (pos MAX_OVERLAP)
    → Some (let t : Touch = record { n = n; delta = d } in t) ≡ plane_touch at dir c r
unfolding plane_touch
plane_touches at dir c n r g d e f t o = rw (← f, t, ← e, ← o) refl

-- where the gap isn't less than the radius the sphere doesn't touch
pub plane_misses : (at dir c : Vec3) (r : ℕ) (g : ℤ) → g ≡ gap_of at dir c → int_lt g (pos r) ≡ false → let none : Option Touch = None in none ≡ plane_touch at dir c r
unfolding plane_touch
plane_misses at dir c r g f t = rw (← f, t) refl
