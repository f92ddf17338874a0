-- What is seen of a state, put together from its parts.
use Rattle.std.proofs.Common.{◌≡◌, ℕ, ℤ, Bool, List, length, Option, None, Some, refl, ap, ◌∙◌}
use Rattle.std.specs.Prelude.{if◌then◌else◌, ◌==◌, option_map, fold, max, find, unwrap_or}
use Rattle.std.specs.List.{range_with_len}
use Rattle.dem_model.specs.SceneValue.{SceneValue}
use Rattle.dem_model.specs.Look.{top_of, kinetic_of, up_of, down_of, most_of, busiest_of, look_of}
use Rattle.dem_model.specs.declared.look.LookRow.{LookRow}
use Rattle.dem_model.specs.declared.state.State.{State}
use Rattle.dem_look.specs.Looker.{lows_of}
use Rattle.dem_look.specs.Inside.{count_at, counts_of, left_count}
use Rattle.dem_look.proofs.FlagFacts.{up-seen, down-seen}
use Rattle.dem_look.proofs.CountFacts.{most-is, busiest-is}

-- who went up, by the flags that the looker keeps and those that were made
pub up-is : (s : SceneValue) (seen : Bool) (kept low now : List Bool) (lows : Option (List Bool)) (before : Option State) (st : State) (up : ℕ) → up ≡ (if seen then left_count low now else 0)
    → low ≡ kept → now ≡ lows_of s st → (if seen then Some kept else None) ≡ lows → lows ≡ option_map (lows_of s) before → up ≡ up_of s before st
up-is s seen kept low now lows before st up is same flags view shows =
    is ∙ ap (λ (l : List Bool). if seen then left_count l now else 0) same ∙ up-seen s seen kept now before st (view ∙ shows) flags

-- and who went down
pub down-is : (s : SceneValue) (seen : Bool) (kept low now : List Bool) (lows : Option (List Bool)) (before : Option State) (st : State) (down : ℕ) → down ≡ (if seen then left_count now low else 0)
    → low ≡ kept → now ≡ lows_of s st → (if seen then Some kept else None) ≡ lows → lows ≡ option_map (lows_of s) before → down ≡ down_of s before st
down-is s seen kept low now lows before st down is same flags view shows =
    is ∙ ap (λ (l : List Bool). if seen then left_count now l else 0) same ∙ down-seen s seen kept now before st (view ∙ shows) flags

-- the greatest count, by the counts that were made
pub most-seen : (s : SceneValue) (st : State) (counts : List ℕ) (most : ℕ) → counts ≡ counts_of s st.held → most ≡ fold max 0 counts → most ≡ most_of s st
most-seen s st counts most made is = is ∙ ap (fold max 0) made ∙ most-is s st

-- and the first clump that has it
pub busiest-seen : (s : SceneValue) (st : State) (counts : List ℕ) (most clump : ℕ) → counts ≡ counts_of s st.held → most ≡ fold max 0 counts
    → clump ≡ unwrap_or (find (λ k. count_at counts k == most) (range_with_len 0 (length counts))) 0 → clump ≡ busiest_of s st
busiest-seen s st counts most clump made greatest is =
    is
    ∙ ap (λ (xs : List ℕ). unwrap_or (find (λ k. count_at xs k == most) (range_with_len 0 (length xs))) 0) made
    ∙ busiest-is s st most (most-seen s st counts most made greatest)

-- the row of these values
pub row-is : (s : SceneValue) (before : Option State) (st : State) (top : ℤ) (kin up down most clump : ℕ) → top ≡ top_of st.bodies → kin ≡ kinetic_of s st → up ≡ up_of s before st
    → down ≡ down_of s before st → most ≡ most_of s st → clump ≡ busiest_of s st
    → (let row : LookRow = record { step = st.step; top = top; kin = kin; up = up; down = down; most = most; clump = clump } in row) ≡ look_of s before st
unfolding look_of
row-is s before st top kin up down most clump e f g h i j = rw (e, f, g, h, i, j) refl
