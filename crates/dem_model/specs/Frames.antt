-- The rows of the program: the text of a state, of how a run ended, of a list that was taken into use, and of a count of tests.
use Rattle.std.specs.Prelude.{ℕ, ◌+◌, ℤ, pos, List, [], ◌∷◌, ◌++◌, codes}
use Rattle.std.specs.Fmt.{signed_decimal}
use Rattle.std.specs.List.{flat_map}
use Rattle.dem_num.specs.declared.vector.Vec3.{Vec3}
use Rattle.dem_model.specs.declared.state.Body.{Body}
use Rattle.dem_model.specs.declared.state.Pair.{Pair}
use Rattle.dem_model.specs.declared.state.Held.{Held}
use Rattle.dem_model.specs.declared.state.State.{State}
use Rattle.dem_model.specs.declared.state.EndKind.{EndKind}
use Rattle.dem_model.specs.declared.state.EndKind.TheVariants.{Speed, Spin, Domain, Swing}
use Rattle.dem_model.specs.declared.state.Last.{Last}
use Rattle.dem_model.specs.declared.state.Last.TheVariants.{Done, Passed}
use Rattle.dem_model.specs.declared.state.TakenRow.{TakenRow}

-- a number of a row: a comma, and its decimal form
unfoldable pub number_text : ℤ → List ℕ
number_text z = codes "," ++ signed_decimal z

-- a row: its name, its numbers in order, and a newline
unfoldable pub row_text : List ℕ → List ℤ → List ℕ
row_text name numbers = name ++ flat_map number_text numbers ++ codes "\n"

-- the head of a frame: the number of its state
unfoldable pub head_text : ℕ → List ℕ
head_text step = row_text (codes "frame") (pos step ∷ [])

-- the row of a clump: its number, position, velocity, quaternion and spin
unfoldable pub clump_text : ℕ → Body → List ℕ
clump_text i b = row_text (codes "clump")
    (pos i ∷ b.p.x ∷ b.p.y ∷ b.p.z ∷ b.v.x ∷ b.v.y ∷ b.v.z ∷ b.q.a ∷ b.q.b ∷ b.q.c ∷ b.q.d ∷ b.w.x ∷ b.w.y ∷ b.w.z ∷ [])

-- the row of a pair that touched: its two numbers and its displacement
unfoldable pub pair_text : Pair → Vec3 → List ℕ
pair_text p h = row_text (codes "pair") (pos p.a ∷ pos p.b ∷ h.x ∷ h.y ∷ h.z ∷ [])

-- the rows of these clumps, numbered from i on
unfoldable pub clumps_text : ℕ → List Body → List ℕ
clumps_text i [] = []
clumps_text i (b ∷ bs) = clump_text i b ++ clumps_text (i + 1) bs

-- the rows of these pairs, in order
unfoldable pub pairs_text : List Held → List ℕ
pairs_text [] = []
pairs_text (e ∷ es) = pair_text e.pair e.h ++ pairs_text es

-- the frame of a state: its head, its clumps from 0, and the pairs that touched
unfoldable pub state_text : State → List ℕ
state_text s = head_text s.step ++ clumps_text 0 s.bodies ++ pairs_text s.held

-- how an end row names a limit
abbrev pub end_name : EndKind → List ℕ
end_name Speed = codes "end,speed"
end_name Spin = codes "end,spin"
end_name Domain = codes "end,domain"
end_name Swing = codes "end,swing"

-- the end row: the last step, or the limit that was passed, with its step and clump
unfoldable pub last_text : Last → List ℕ
last_text (Done step) = row_text (codes "end,done") (pos step ∷ [])
last_text (Passed e) = row_text (end_name e.kind) (pos e.step ∷ pos e.clump ∷ [])

-- the row of a list that was taken into use
unfoldable pub taken_text : TakenRow → List ℕ
taken_text row = row_text (codes "taken") (pos row.from ∷ pos row.at ∷ pos row.pairs ∷ [])

-- the row of a count of tests
unfoldable pub tests_text : ℕ → List ℕ
tests_text n = row_text (codes "tests") (pos n ∷ [])
