-- Which puts fail.
use Rattle.std.proofs.Common.{◌≡◌, Option, Some}
use Rattle.std.specs.Prelude.{IsNone}

-- what was told isn't nothing
pub is_told : {X : Type 0} (o : Option X) (x : X) → o ≡ Some x → IsNone o → ⊥
is_told o x told none = let e = rw told at none in cc
