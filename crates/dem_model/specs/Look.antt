-- What is seen of a run without its frames: a row of values for each frame that is due.
use Rattle.std.specs.Prelude.{ℕ, ℤ, pos, ◌+◌, ◌*◌, ◌/◌, ◌^◌, ◌==◌, Bool, not, ◌&&◌, ◌||◌, List, [], ◌∷◌, ◌++◌, map, length, find, fold, max, codes, Option, Some, None, unwrap_or, int_lt}
use Rattle.std.specs.Int.{int_max}
use Rattle.std.specs.List.{range_with_len, sum_by, count_by}
use Rattle.dem_num.specs.Vectors.{widened, norm2_of}
use Rattle.dem_model.specs.SceneValue.{SceneValue}
use Rattle.dem_model.specs.Advance.{mass_of}
use Rattle.dem_model.specs.Centers.{body_at}
use Rattle.dem_model.specs.Frames.{row_text, last_text}
use Rattle.dem_model.specs.Output.{due_states}
use Rattle.dem_model.specs.Plain.{first_state, last_of}
use Rattle.dem_model.specs.Step.{clump_at, first_clump, is_second}
use Rattle.dem_model.specs.declared.limits.TheConstants.{VOXEL}
use Rattle.dem_model.specs.declared.look.LookRow.{LookRow}
use Rattle.dem_model.specs.declared.state.Body.{Body}
use Rattle.dem_model.specs.declared.state.Held.{Held}
use Rattle.dem_model.specs.declared.state.State.{State}

-- the numbers of a scene's clumps
abbrev pub clump_numbers : SceneValue → List ℕ
clump_numbers s = range_with_len 0 (length s.clumps)

-- ---- where the bodies are, and how they move

-- the greater of a height and that of a body
unfoldable pub higher : ℤ → Body → ℤ
higher z b = int_max z b.p.z

-- the greatest height of a body; none in the box is below zero
unfoldable pub top_of : List Body → ℤ
top_of bodies = fold higher (pos 0) bodies

-- twice the kinetic energy of a clump: its mass times the square of its speed in u per step
unfoldable pub motion_of : SceneValue → State → ℕ → ℕ
motion_of s st k = (mass_of s.templates (clump_at s k).t * norm2_of (widened (body_at st.bodies k).v)) / 2 ^ 32

-- twice the kinetic energy of all clumps, without their spin
unfoldable pub kinetic_of : SceneValue → State → ℕ
kinetic_of s st = sum_by (motion_of s st) (clump_numbers s)

-- ---- who passed the middle height

-- whether a clump is below the middle height of the box
unfoldable pub is_low : SceneValue → State → ℕ → Bool
is_low s st k = int_lt (body_at st.bodies k).p.z (pos (s.nz * (VOXEL / 2)))

-- how many clumps are low in the one state and not in the other
unfoldable pub count_left : SceneValue → State → State → ℕ
count_left s low high = count_by (λ k. is_low s low k && not (is_low s high k)) (clump_numbers s)

-- how many clumps went up since the frame before, where there is one
unfoldable pub up_of : SceneValue → Option State → State → ℕ
up_of s None st = 0
up_of s (Some before) st = count_left s before st

-- how many clumps went down since the frame before, where there is one
unfoldable pub down_of : SceneValue → Option State → State → ℕ
down_of s None st = 0
down_of s (Some before) st = count_left s st before

-- ---- who touches most

-- whether a sphere of a clump is in the pair of what is held
unfoldable pub is_of_clump : SceneValue → ℕ → Held → Bool
is_of_clump s k e = (first_clump s e.pair == k) || is_second s k e.pair

-- how many pairs that are held a clump has a sphere in
unfoldable pub contacts_of : SceneValue → State → ℕ → ℕ
contacts_of s st k = count_by (is_of_clump s k) st.held

-- the greatest number of pairs of one clump
unfoldable pub most_of : SceneValue → State → ℕ
most_of s st = fold max 0 (map (contacts_of s st) (clump_numbers s))

-- the first clump that has the greatest number
unfoldable pub busiest_of : SceneValue → State → ℕ
busiest_of s st = unwrap_or (find (λ k. contacts_of s st k == most_of s st) (clump_numbers s)) 0

-- ---- the rows

-- what is seen of a state, and of the frame before it where there is one
unfoldable pub look_of : SceneValue → Option State → State → LookRow
look_of s before st = record {
  step = st.step;
  top = top_of st.bodies;
  kin = kinetic_of s st;
  up = up_of s before st;
  down = down_of s before st;
  most = most_of s st;
  clump = busiest_of s st;
}

-- the row of what is seen
unfoldable pub look_text : LookRow → List ℕ
look_text r = row_text (codes "look") (pos r.step ∷ r.top ∷ pos r.kin ∷ pos r.up ∷ pos r.down ∷ pos r.most ∷ pos r.clump ∷ [])

-- the rows of some states, each seen with the one before it
unfoldable pub looks_text : SceneValue → Option State → List State → List ℕ
looks_text s before [] = []
looks_text s before (st ∷ rest) = look_text (look_of s before st) ++ looks_text s (Some st) rest

-- what is seen of a scene's run: a row for each frame of its output, and the end row
unfoldable pub looked_at : SceneValue → List ℕ
looked_at s = looks_text s None (due_states s (first_state s) (range_with_len 0 (s.steps + 1))) ++ last_text (last_of s)
