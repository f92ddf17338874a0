-- What a passed test of a limit says.
use Rattle.std.proofs.Common.{◌≡◌, ℕ, ◌≤◌, Bool, false, List, Result, Ok, Err, get_or, arith, sym, subst, inl, inr, unsigned_abs}
use Rattle.std.specs.Prelude.{nat_lt, ◌||◌, not, All, IfOk}
use Rattle.std.specs.List.{list_any}
use Rattle.std.proofs.lemmas.Bool.{cases_Bool, or_parts, not-false}
use Rattle.std.proofs.lemmas.Bool.Decides.{nat_tests}
use Rattle.std.proofs.lemmas.List.Folds.{list_any_at}
use Rattle.dem_num.specs.declared.vector.Wide3.{Wide3}
use Rattle.dem_num.specs.Vectors.{widened, Within}
use Rattle.dem_num.specs.Rotations.{IsOrientation, quat_norm2_of}
use Rattle.dem_num.proofs.VectorSizes.{within_wider}
use Rattle.dem_model.specs.SceneValue.{SceneValue}
use Rattle.dem_model.specs.Position.{in_box}
use Rattle.dem_model.specs.Sound.{IsFrom}
use Rattle.dem_model.specs.Spheres.{center_of}
use Rattle.dem_model.specs.Advance.{is_over, leaves_box}
use Rattle.dem_model.specs.declared.limits.TheConstants.{MIN_NORM2, MAX_NORM2}
use Rattle.dem_model.specs.declared.shape.Ball.{Ball}
use Rattle.dem_model.specs.declared.state.Body.{Body}
use Rattle.dem_model.specs.declared.state.EndKind.{EndKind}
use Rattle.dem_force.specs.Placed.{IsInside, IsPlaced}

some_over : (limit x y z : ℕ) → (nat_lt limit x || nat_lt limit y || nat_lt limit z) ≡ false → (x ≤ limit) × (y ≤ limit) × (z ≤ limit)
some_over limit x y z h = (grind (arith, nat_tests), grind (arith, nat_tests), grind (arith, nat_tests))

-- a vector that isn't over a limit is within it
pub is_over-within : (limit : ℕ) (a : Wide3) → is_over limit a ≡ false → Within a limit
unfolding is_over
is_over-within limit a h =
    let each = some_over limit (unsigned_abs a.x) (unsigned_abs a.y) (unsigned_abs a.z) h in record { x = each.0; y = each.1; z = each.2 }

-- a vector that isn't over a limit is within each greater number
pub not_over-within : (limit m : ℕ) (a : Wide3) → false ≡ is_over limit a → limit ≤ m → Within a m
not_over-within limit m a h l = within_wider a limit m (is_over-within limit a (sym h)) l

-- where no element passes a test, each fails it
pub none_pass : {X : Type 0} (p : X → Bool) (xs : List X) → list_any p xs ≡ false → All (λ x. p x ≡ false) xs
none_pass p xs h = λ i d lt. elim (cases_Bool (p (get_or xs i d))) [
  | inl t ↦ let some = list_any_at p xs i d lt t in cc
  | inr f ↦ f
]

-- a body that doesn't leave the box is inside, and so are its spheres
pub leaves_box-inside : (s : SceneValue) (balls : List Ball) (b : Body) → leaves_box s balls b ≡ false → IsInside s balls b
unfolding leaves_box
leaves_box-inside s balls b h =
    let parts = or_parts (not (in_box s (widened b.p))) (list_any (λ (x : Ball). not (in_box s (center_of b x))) balls) h in
    record {
      place = not-false (in_box s (widened b.p)) parts.0;
      centers = λ i d lt. not-false (in_box s (center_of b (get_or balls i d))) (none_pass (λ (x : Ball). not (in_box s (center_of b x))) balls parts.1 i d lt);
    }

-- what was kept inside with a small velocity and spin is placed
pub placed_from : (s : SceneValue) (balls : List Ball) (new : Body) (r : Result Body EndKind) → IfOk r (IsInside s balls) → IfOk r (λ b. b ≡ new)
    → Within (widened new.v) s.speed → Within (widened new.w) s.spin → IsOrientation new.q → IfOk r (IsPlaced s balls)
placed_from s balls new (Ok b) inside same v w q = record {
  body = record {
    v = subst (λ (x : Body). Within (widened x.v) s.speed) (sym same) v;
    w = subst (λ (x : Body). Within (widened x.w) s.spin) (sym same) w;
    q = subst (λ (x : Body). IsFrom MIN_NORM2 MAX_NORM2 (quat_norm2_of x.q)) (sym same) (record { low_le = q.long_enough; le_high = q.short_enough });
    p = inside.place;
  };
  centers = inside.centers;
}
placed_from s balls new (Err e) inside same v w q = tt
