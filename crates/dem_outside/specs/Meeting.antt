-- Which two actions a gate lets meet.
use Rattle.std.specs.Prelude.{ℕ}
use Rattle.dem_outside.specs.declared.gate.Point.{Point}

-- two actions, each by its kind and its number of that kind, from 1
pub record Places : Type 0 where
  pub first : Point
  pub first_nth : ℕ
  pub second : Point
  pub second_nth : ℕ

-- the action i of kind p and the action j of kind q
abbrev pub places_of : Point → ℕ → Point → ℕ → Places
places_of p i q j = record { first = p; first_nth = i; second = q; second_nth = j }
