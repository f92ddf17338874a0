-- What the parts of a look say of flags and counts; no contract of a public call names any of it.
use Rattle.std.specs.Prelude.{ℕ, ◌+◌, ◌<◌, ◌≡◌, ◌≢◌, Bool, false, not, ◌&&◌, List, length, map, slice_index_or, if◌then◌else◌}
use Rattle.std.specs.List.{range_with_len, count_by}
use Rattle.dem_model.specs.SceneValue.{SceneValue}
use Rattle.dem_model.specs.Look.{clump_numbers, is_of_clump}
use Rattle.dem_model.specs.declared.state.Held.{Held}

-- the flag of a clump
abbrev pub flag_at : List Bool → ℕ → Bool
flag_at flags k = slice_index_or flags k false

-- how many clumps have the first flag and not the second
unfoldable pub left_count : List Bool → List Bool → ℕ
left_count low high = count_by (λ k. flag_at low k && not (flag_at high k)) (range_with_len 0 (length low))

-- the count of a clump
abbrev pub count_at : List ℕ → ℕ → ℕ
count_at counts k = slice_index_or counts k 0

-- for each clump, how many of these pairs it has a sphere in
unfoldable pub counts_of : SceneValue → List Held → List ℕ
counts_of s held = map (λ k. count_by (is_of_clump s k) held) (clump_numbers s)

-- one where something is so, and else none
abbrev pub one_where : Bool → ℕ
one_where b = if b then 1 else 0

-- the count of one clump is greater by one, and all others are as before
pub record AddsOne (clump : ℕ) (old new : List ℕ) : Type 0 where
  pub count : length new ≡ length old
  pub own : count_at new clump ≡ count_at old clump + 1
  pub others : (k : ℕ) → k ≢ clump → count_at new k ≡ count_at old k

-- each count is greater by one where the clump has a sphere in the pair
pub record CountsPair (s : SceneValue) (e : Held) (old new : List ℕ) : Type 0 where
  pub count : length new ≡ length old
  pub each : (k : ℕ) → k < length old → count_at new k ≡ count_at old k + one_where (is_of_clump s k e)
