-- The frame of a state reads back as that state.
use Rattle.std.proofs.Common.{◌≡◌, ℕ, ◌+◌, ◌-◌, ◌<◌, ◌≤◌, All, pos, List, [], ◌∷◌, ◌++◌, codes, length, length-append, true, Option, Some, Result, Ok, ap, subst, ◌∙◌, refl, append_assoc, append-nil, arith}
use Rattle.std.specs.Prelude.{ok_or}
use Rattle.std.proofs.lemmas.Bool.{lt-ltb, le-ltb}
use Rattle.std.proofs.lemmas.Option.{slice_get-get_or}
use Rattle.std.proofs.Math.Seq.{get_or-append_seam}
use Rattle.csv.specs.Reading.{Reached, default_config, strip_bom}
use Rattle.csv.specs.declared.parser.State.TheVariants as st
use Rattle.dem_model.specs.Frames.{row_text, head_text, clump_text, clumps_text, pair_text, pairs_text, state_text}
use Rattle.dem_model.specs.declared.state.Body.{Body}
use Rattle.dem_model.specs.declared.state.Held.{Held}
use Rattle.dem_model.specs.declared.state.State.{State}
use Rattle.dem_frame.specs.Records.{continues}
use Rattle.dem_frame.specs.PartialFrames.{nothing_read, with_record, with_head, with_body, last_held, whole_frame, frame_of, Gives}
use Rattle.dem_frame.specs.ReadBack.{BodyFits, body_numbers, IsOrdered, IsStored, Ascends, IsWritable, ReadsBack}
use Rattle.dem_frame.specs.declared.partial.PartialFrame.{PartialFrame}
use Rattle.dem_frame.specs.declared.partial.FrameFault.{FrameFault}
use Rattle.dem_frame.specs.declared.partial.FrameFault.TheVariants.{Short}
use Rattle.dem_frame.proofs.PartialFacts.{read_on}
use Rattle.dem_frame.proofs.FrameFacts.{frame-all}
use Rattle.dem_frame.proofs.LineFacts.{Lines, Lines-row, Lines-none, no_record}
use Rattle.dem_frame.proofs.ReadOnFacts.{fits_small, all_first, all_behind, head_fields, clump_fields, pair_fields, pair_fit, head_reads, clump_reads, pair_reads}

-- ---- the records of a state

-- what was read of a frame: the head, these bodies and these pairs
abbrev read_so_far : ℕ → List Body → List Held → PartialFrame
read_so_far step bodies held = record { step = Some step; bodies = bodies; held = held }

-- the records of these clumps, numbered from i on
unfoldable clump_rows : ℕ → List Body → List (List (List ℕ))
clump_rows i [] = []
clump_rows i (b ∷ bs) = clump_fields i b ∷ clump_rows (i + 1) bs

-- the records of these pairs
unfoldable pair_rows : List Held → List (List (List ℕ))
pair_rows [] = []
pair_rows (e ∷ es) = pair_fields e ∷ pair_rows es

-- the records of a state
abbrev state_rows : State → List (List (List ℕ))
state_rows s = head_fields s.step ∷ (clump_rows 0 s.bodies ++ pair_rows s.held)

-- ---- its lines

lines_pairs : (held : List Held) → All IsOrdered held → All IsStored held → Lines (pairs_text held) (pair_rows held)
unfolding pairs_text pair_text pair_rows
lines_pairs [] ordered stored = Lines-none
lines_pairs (e ∷ es) ordered stored =
    Lines-row (codes "pair") (pos e.pair.a) (pos e.pair.b ∷ e.h.x ∷ e.h.y ∷ e.h.z ∷ []) (pairs_text es) (pair_rows es) refl
    (pair_fit e (all_first IsOrdered e es ordered) (all_first IsStored e es stored)) (lines_pairs es (all_behind IsOrdered e es ordered) (all_behind IsStored e es stored))

lines_clumps : (i : ℕ) (bodies : List Body) (tail : List ℕ) (more : List (List (List ℕ))) → i + length bodies ≤ 16384 → All BodyFits bodies
    → Lines tail more → Lines (clumps_text i bodies ++ tail) (clump_rows i bodies ++ more)
unfolding clumps_text clump_text clump_rows
lines_clumps i [] tail more few fit behind = behind
lines_clumps i (b ∷ bs) tail more few fit behind =
    rw (append_assoc (clump_text i b) (clumps_text (i + 1) bs) tail)
    (Lines-row (codes "clump") (pos i) (body_numbers b) (clumps_text (i + 1) bs ++ tail) (clump_rows (i + 1) bs ++ more) refl
    (fits_small i (omega arith), all_first BodyFits b bs fit) (lines_clumps (i + 1) bs tail more (omega arith) (all_behind BodyFits b bs fit) behind))

lines_state : (s : State) → IsWritable s → Lines (state_text s) (state_rows s)
unfolding state_text head_text
lines_state s is =
    let step = is.step in
    rw (append_assoc (head_text s.step) (clumps_text 0 s.bodies) (pairs_text s.held))
    (Lines-row (codes "frame") (pos s.step) [] (clumps_text 0 s.bodies ++ pairs_text s.held) (clump_rows 0 s.bodies ++ pair_rows s.held) refl
    (fits_small s.step (omega arith), tt)
    (lines_clumps 0 s.bodies (pairs_text s.held) (pair_rows s.held) (let few = is.few in omega arith) is.bodies (lines_pairs s.held is.ordered is.stored)))

-- no frame starts with a byte order mark
no_mark : (s : State) → strip_bom (state_text s) ≡ state_text s
unfolding strip_bom state_text head_text row_text
no_mark s = refl

-- ---- what they read as

with_its_head : (clumps step : ℕ) → step ≤ 1000000000 → with_record clumps nothing_read (head_fields step) ≡ Some (read_so_far step [] [])
unfolding with_head
with_its_head clumps step within = rw (head_reads step within) refl

with_a_clump : (clumps step : ℕ) (bodies : List Body) (b : Body) → length bodies < clumps → clumps ≤ 16384 → BodyFits b
    → with_record clumps (read_so_far step bodies []) (clump_fields (length bodies) b) ≡ Some (read_so_far step (bodies ++ b ∷ []) [])
unfolding with_head with_body
with_a_clump clumps step bodies b missing few fit = rw (lt-ltb (length bodies) clumps missing, clump_reads (length bodies) b (omega arith) fit) refl

with_a_pair : (clumps step : ℕ) (bodies : List Body) (held : List Held) (e : Held) → clumps ≤ length bodies → IsOrdered e → IsStored e
    → continues (last_held held) e.pair ≡ true → with_record clumps (read_so_far step bodies held) (pair_fields e) ≡ Some (read_so_far step bodies (held ++ e ∷ []))
unfolding with_head with_body
with_a_pair clumps step bodies held e all order small after = rw (le-ltb (length bodies) clumps all, pair_reads (last_held held) e order small after) refl

clumps_read : (clumps step : ℕ) (frame behind : List Body) (more : List (List (List ℕ))) → length frame + length behind ≤ clumps → clumps ≤ 16384
    → All BodyFits behind
    → read_on clumps (read_so_far step frame []) (clump_rows (length frame) behind ++ more) ≡ read_on clumps (read_so_far step (frame ++ behind) []) more
unfolding read_on clump_rows
clumps_read clumps step frame [] more room few fit = rw (append-nil frame) refl
clumps_read clumps step frame (b ∷ bs) more room few fit =
    let size : length (frame ++ b ∷ []) ≡ length frame + 1 = length-append frame (b ∷ []) in
    let next = clumps_read clumps step (frame ++ b ∷ []) bs more (omega arith) few (all_behind BodyFits b bs fit) in
    rw (with_a_clump clumps step frame b (omega arith) few (all_first BodyFits b bs fit)) (rw (size, append_assoc frame (b ∷ []) bs) at next)

-- the last of a list that was pushed to
last_pushed : (held : List Held) (e : Held) → last_held (held ++ e ∷ []) ≡ Some e
last_pushed held e =
    let size : length (held ++ e ∷ []) ≡ length held + 1 = length-append held (e ∷ []) in
    let place : length (held ++ e ∷ []) - 1 ≡ length held = omega arith in
    rw place (slice_get-get_or (held ++ e ∷ []) (length held) e (omega arith) ∙ ap (λ (x : Held). Some x) (get_or-append_seam held e [] e))

pairs_read : (clumps step : ℕ) (bodies : List Body) (frame behind : List Held) → clumps ≤ length bodies → All IsOrdered behind
    → All IsStored behind → Ascends (last_held frame) behind
    → read_on clumps (read_so_far step bodies frame) (pair_rows behind) ≡ Some (read_so_far step bodies (frame ++ behind))
unfolding read_on pair_rows Ascends
pairs_read clumps step bodies frame [] all ordered stored after = rw (append-nil frame) refl
pairs_read clumps step bodies frame (e ∷ es) all ordered stored after =
    let rest : Ascends (last_held (frame ++ e ∷ [])) es = rw (last_pushed frame e) after.1 in
    let next = pairs_read clumps step bodies (frame ++ e ∷ []) es all (all_behind IsOrdered e es ordered) (all_behind IsStored e es stored) rest in
    rw (with_a_pair clumps step bodies frame e all (all_first IsOrdered e es ordered) (all_first IsStored e es stored) after.0) (rw (append_assoc frame (e ∷ []) es) at next)

-- the records of a state read as its parts
state_reads : (s : State) (clumps : ℕ) → IsWritable s → clumps ≡ length s.bodies → read_on clumps nothing_read (state_rows s) ≡ Some (read_so_far s.step s.bodies s.held)
unfolding read_on
state_reads s clumps is all =
    let few = is.few in
    rw (with_its_head clumps s.step is.step)
    (clumps_read clumps s.step [] s.bodies (pair_rows s.held) (omega arith) (omega arith) is.bodies
    ∙ pairs_read clumps s.step s.bodies [] s.held (omega arith) is.ordered is.stored is.ascending)

whole_state : (s : State) (clumps : ℕ) → clumps ≡ length s.bodies → whole_frame clumps (read_so_far s.step s.bodies s.held) ≡ Some s
unfolding whole_frame
whole_state s clumps all = rw (le-ltb (length s.bodies) clumps (omega arith)) refl

-- ---- the frame as a whole

-- its lines are reached one after the other
lines_reached : (text : List ℕ) (rows : List (List (List ℕ))) → Lines text rows → Reached default_config st.StartRecord text rows st.StartRecord []
unfolding Lines Reached
lines_reached text [] lines = (refl, lines)
lines_reached text (row ∷ rows) lines = ((row, st.StartRecord, lines.0), lines.1, refl, lines_reached lines.0 rows lines.2)

-- the frame of a state reads as that state
pub state_frame : (s : State) (clumps : ℕ) → IsWritable s → clumps ≡ length s.bodies → frame_of clumps (state_text s) ≡ Ok s
state_frame s clumps is all =
    let reached : Reached default_config st.StartRecord (strip_bom (state_text s)) (state_rows s) st.StartRecord [] = rw (no_mark s) (lines_reached (state_text s) (state_rows s) (lines_state s is)) in
    frame-all clumps (state_text s) (read_so_far s.step s.bodies s.held) (state_rows s) (st.StartRecord, [], reached, no_record) (state_reads s clumps is all)
    ∙ ap (λ (o : Option State). ok_or o (Short (length (state_rows s)))) (whole_state s clumps all)

-- what is read is the frame of the text, so the frame of a state reads back as that state
pub reads_back : (clumps : ℕ) (text : List ℕ) (result : Result State FrameFault) → Gives result (frame_of clumps text) → ReadsBack clumps text result
reads_back clumps text result gives s is same all =
    subst (λ (r : Result State FrameFault). Gives result r) (ap (frame_of clumps) same ∙ state_frame s clumps is all) gives
