-- In how many pairs of a list a clump has a part.
use Rattle.std.specs.Prelude.{ℕ, ◌+◌, ◌==◌, ◌^◌, Bool, true, false, ◌||◌, List, [], ◌∷◌}
use Rattle.dem_model.specs.SceneValue.{SceneValue}
use Rattle.dem_model.specs.Step.{first_clump, is_second}
use Rattle.dem_model.specs.declared.state.Pair.{Pair}

-- whether a clump has a part in a pair
abbrev pub involves : SceneValue → ℕ → Pair → Bool
involves s c p = (first_clump s p == c) || is_second s c p

-- one where the test holds, else nothing
abbrev pub one_if : Bool → ℕ
one_if true = 1
one_if false = 0

-- how many of these pairs a clump has a part in
unfoldable pub pair_count : SceneValue → ℕ → List Pair → ℕ
pair_count s c [] = 0
pair_count s c (p ∷ ps) = one_if (involves s c p) + pair_count s c ps

-- no clump has a part in more pairs than this
abbrev pub most_pairs : ℕ
most_pairs = 2 ^ 21
