-- The families that are off with one, as the digits of a number of base 2.
use Rattle.std.specs.Prelude.{ℕ, zero, suc, ◌+◌, ◌*◌, List, if◌then◌else◌}
use Rattle.dem_model.specs.Families.{is_off}
use Rattle.dem_model.specs.declared.family.Off.{Off}

-- 1 where two families are off, else 0
unfoldable pub one_off : List Off → ℕ → ℕ → ℕ
one_off off f g = if is_off off f g then 1 else 0

-- so many families from family k on that are off with f, the lowest digit first
unfoldable pub offs_from : List Off → ℕ → ℕ → ℕ → ℕ
offs_from off f k zero = 0
offs_from off f k (suc n) = one_off off f k + 2 * offs_from off f (k + 1) n

-- the sixteen families that are off with f
unfoldable pub offs_of : List Off → ℕ → ℕ
offs_of off f = offs_from off f 0 16
