-- What the walk of two lists says; no contract of a public call names any of it.
use Rattle.std.specs.Prelude.{◌≡◌, ◌≢◌, ℕ, ◌+◌, ◌<◌, ◌≤◌, false, List, length, slice_index_or}
use Rattle.std.specs.List.{AllWithin}
use Rattle.std.specs.Ordering.{is_lt}
use Rattle.std.specs.declared.cmp.Ordering.TheVariants.{Less}
use Rattle.dem_model.specs.declared.state.Pair.{Pair}
use Rattle.dem_model.specs.Pairs.{pair_cmp}

-- the pairs at the places below i come before a pair
abbrev pub AllBefore : List Pair → ℕ → Pair → Type 0
AllBefore ps i p = AllWithin (λ q. pair_cmp q p ≡ Less) ps 0 i

-- i is the first place whose pair doesn't come before a pair
pub record IsReached (ps : List Pair) (i : ℕ) (p : Pair) : Type 0 where
  pub within : i ≤ length ps
  pub before : AllBefore ps i p
  pub after : (d : Pair) → i < length ps → is_lt (pair_cmp (slice_index_or ps i d) p) ≡ false

-- n pairs on end, from place i of one list and from place j of another, are the same, and the next two aren't
pub record IsStretch (ps : List Pair) (i : ℕ) (qs : List Pair) (j n : ℕ) : Type 0 where
  pub old_within : i + n ≤ length ps
  pub new_within : j + n ≤ length qs
  pub same : (k : ℕ) (d : Pair) → k < n → slice_index_or ps (i + k) d ≡ slice_index_or qs (j + k) d
  pub ends : (d : Pair) → i + n < length ps → j + n < length qs → slice_index_or ps (i + n) d ≢ slice_index_or qs (j + n) d
