-- What the ranges of a contact's sides say together.
use Rattle.std.proofs.Common.{arith, subst, sym, inl, inr}
use Rattle.dem_model.specs.declared.law.Side.{Side}
use Rattle.dem_model.specs.Ranges.{IsBounded, IsSecond, wall_side_of}

-- a wall's side is within the ranges of a side
wall_side_of-bounded : IsBounded wall_side_of
wall_side_of-bounded = record {
  v = record { x = omega arith; y = omega arith; z = omega arith };
  spin = record { x = omega arith; y = omega arith; z = omega arith };
  lever = record { x = omega arith; y = omega arith; z = omega arith };
  r = omega arith;
  mass = omega arith;
}

-- each second side is within the ranges of a side
pub IsSecond_bounded : (s : Side) → IsSecond s → IsBounded s
IsSecond_bounded s (inl e) = subst IsBounded (sym e) wall_side_of-bounded
IsSecond_bounded s (inr f) = f.within
