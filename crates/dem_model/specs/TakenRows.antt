-- Which rows of taken lists a run may have, the turns that come to them, and the tests that they stand for.
use Rattle.std.specs.Prelude.{ℕ, ◌≡◌, ◌↔◌, ◌+◌, ◌-◌, ◌*◌, ◌<◌, ◌≤◌, List, [], ◌∷◌, ◌++◌, length, replicate}
use Rattle.std.specs.List.{AllByRecursion}
use Rattle.std.specs.Option.{IsSomeAnd}
use Rattle.dem_model.specs.SceneValue.{SceneValue}
use Rattle.dem_model.specs.declared.state.Last.{Last}
use Rattle.dem_model.specs.declared.state.Last.TheVariants.{Done, Passed}
use Rattle.dem_model.specs.declared.state.TakenRow.{TakenRow}
use Rattle.dem_model.specs.declared.state.Turn.{Turn}
use Rattle.dem_model.specs.declared.state.Turn.TheVariants.{Post, Take, Deliver, Collect, Step}
use Rattle.dem_model.specs.Plain.{plain_at}
use Rattle.dem_model.specs.World.{snap_of, list_of}

-- how many steps a run has begun that ends so
unfoldable pub begun : Last → ℕ
begun (Done step) = step
begun (Passed end) = end.step

-- the step until which a list is used: that at which the next one is taken, or where the run ends
unfoldable pub used_until : List TakenRow → ℕ → ℕ
used_until [] end = end
used_until (next ∷ rows) end = next.at

-- a later list is newer, and its state isn't before the step at which the list before it was taken
abbrev pub IsFollowed : TakenRow → List TakenRow → Type 0
IsFollowed row [] = Unit {0}
IsFollowed row (next ∷ rows) = (row.from < next.from) × (row.at ≤ next.from)

-- a list taken into use: it was made from a state of the run that isn't later, and at most the drift limit back; it has all near pairs of
-- that state; and it is used for at most one step more than the drift limit
pub record IsRow (s : SceneValue) (drift : ℕ) (row : TakenRow) (rest : List TakenRow) (end : ℕ) : Type 0 where
  pub past : row.from ≤ row.at
  pub young : row.at ≤ row.from + drift
  pub size : IsSomeAnd (plain_at s row.from) (λ st. row.pairs ≡ length (list_of s drift (snap_of st)))
  pub followed : IsFollowed row rest
  pub used : used_until rest end ≤ row.from + drift + 1

-- each of these is a row of a run up to this step
abbrev pub AreRows : SceneValue → ℕ → List TakenRow → ℕ → Type 0
AreRows s drift [] end = Unit {0}
AreRows s drift (row ∷ rows) end = IsRow s drift row rows end × AreRows s drift rows end

-- the first list is that of the first state, taken there
abbrev pub BeginsAtFirst : List TakenRow → Type 0
BeginsAtFirst [] = Unit {0}
BeginsAtFirst (row ∷ rows) = (row.from ≡ 0) × (row.at ≡ 0)

-- the rows that a run may have which ends so
pub record IsLegal (s : SceneValue) (drift : ℕ) (last : Last) (rows : List TakenRow) : Type 0 where
  pub none : (rows ≡ []) ↔ (s.steps ≡ 0)
  pub first : BeginsAtFirst rows
  pub each : AreRows s drift rows (begun last)
  pub in_time : AllByRecursion (λ (row : TakenRow). row.at < begun last) rows

-- so many steps
unfoldable pub steps : ℕ → List Turn
steps n = replicate n Step

-- the turns from the state of this number on that come to these rows, until so many steps are begun
unfoldable pub spell_from : ℕ → List TakenRow → ℕ → List Turn
spell_from now [] end = steps (end - now)
spell_from now (row ∷ rows) end =
    steps (row.from - now) ++ Post ∷ Take ∷ Deliver ∷ (steps (row.at - row.from) ++ Collect ∷ spell_from row.at rows end)

-- the turns of a run with these rows: to the state of each list by steps, there the exchange, to the step at which it is taken by more
unfoldable pub spell : List TakenRow → Last → List Turn
spell rows last = spell_from 0 rows (begun last)

-- the tests of the lists of these rows, until so many steps are begun
unfoldable pub tests_until : List TakenRow → ℕ → ℕ
tests_until [] end = 0
tests_until (row ∷ rows) end = row.pairs * (used_until rows end - row.at) + tests_until rows end

-- the tests of a run with these rows: the pairs of each list, times the steps begun on it
unfoldable pub tests_of : List TakenRow → Last → ℕ
tests_of rows last = tests_until rows (begun last)
