-- The state that a text is as a frame, by its records.
use Rattle.std.proofs.Common.{◌≡◌, ℕ, ◌+◌, ◌≤◌, List, [], ◌∷◌, ◌++◌, length, Option, Some, None, Result, Err, sym, ap, ◌∙◌, refl, append_assoc, append-nil, option_and_then, arith}
use Rattle.std.specs.Prelude.{ok_or}
use Rattle.std.specs.Option.{option_map_or}
use Rattle.std.proofs.lemmas.Option.{same_Some, none-some}
use Rattle.csv.specs.Reading.{AreRecords, Reached, default_config, records, strip_bom}
use Rattle.csv.specs.declared.parser.State.{State as ParserState}
use Rattle.csv.specs.declared.parser.State.TheVariants as st
use Rattle.dem_model.specs.declared.state.State.{State}
use Rattle.dem_frame.specs.PartialFrames.{nothing_read, with_record, whole_frame, frame_from, frame_of}
use Rattle.dem_frame.specs.declared.partial.PartialFrame.{PartialFrame}
use Rattle.dem_frame.specs.declared.partial.FrameFault.{FrameFault}
use Rattle.dem_frame.specs.declared.partial.FrameFault.TheVariants.{Bad, Short}
use Rattle.dem_frame.proofs.PartialFacts.{read_on}
use Rattle.dem_frame.proofs.RecordFacts.{records-all, records-begin, records-few, strip-few}

-- the same of the records behind the first
frame_from-behind : (clumps n : ℕ) (last : PartialFrame) (rows more : List (List (List ℕ))) (answer : Result State FrameFault) (o : Option PartialFrame)
    → ((next : PartialFrame) → read_on clumps next rows ≡ Some last → frame_from clumps (n + 1) next (rows ++ more) ≡ answer)
    → option_and_then (λ next. read_on clumps next rows) o ≡ Some last
    → option_map_or (λ next. frame_from clumps (n + 1) next (rows ++ more)) o (Err (Bad (n + 1))) ≡ answer
frame_from-behind clumps n last rows more answer None each read = absurd (none-some last read)
frame_from-behind clumps n last rows more answer (Some next) each read = each next read

-- the frame of some records that were read, and of more behind them
frame_from-read : (clumps n : ℕ) (frame last : PartialFrame) (rows more : List (List (List ℕ))) → read_on clumps frame rows ≡ Some last
    → frame_from clumps n frame (rows ++ more) ≡ frame_from clumps (n + length rows) last more
unfolding read_on frame_from
frame_from-read clumps n frame last [] more read =
    let none : n ≡ n + 0 = omega arith in
    ap (λ (f : PartialFrame). frame_from clumps n f more) (same_Some frame last read) ∙ ap (λ (k : ℕ). frame_from clumps k last more) none
frame_from-read clumps n frame last (row ∷ rows) more read =
    let one : n + 1 + length rows ≡ n + length (row ∷ rows) = omega arith in
    frame_from-behind clumps n last rows more (frame_from clumps (n + length (row ∷ rows)) last more) (with_record clumps frame row)
    (λ next r. frame_from-read clumps (n + 1) next last rows more r ∙ ap (λ (k : ℕ). frame_from clumps k last more) one) read

-- all records were read
frame_from-all : (clumps : ℕ) (last : PartialFrame) (rows : List (List (List ℕ))) → read_on clumps nothing_read rows ≡ Some last
    → frame_from clumps 0 nothing_read rows ≡ ok_or (whole_frame clumps last) (Short (length rows))
unfolding frame_from
frame_from-all clumps last rows read =
    let none : 0 + length rows ≡ length rows = omega arith in
    ap (λ (l : List (List (List ℕ))). frame_from clumps 0 nothing_read l) (sym (append-nil rows))
    ∙ frame_from-read clumps 0 nothing_read last rows [] read
    ∙ ap (λ (k : ℕ). ok_or (whole_frame clumps last) (Short k)) none

-- a record is the first that no good frame has there
frame_from-bad : (clumps : ℕ) (last : PartialFrame) (rows more : List (List (List ℕ))) (fields : List (List ℕ)) → read_on clumps nothing_read rows ≡ Some last
    → with_record clumps last fields ≡ None → frame_from clumps 0 nothing_read (rows ++ fields ∷ more) ≡ Err (Bad (length rows + 1))
unfolding frame_from
frame_from-bad clumps last rows more fields read bad =
    let none : 0 + length rows + 1 ≡ length rows + 1 = omega arith in
    frame_from-read clumps 0 nothing_read last rows (fields ∷ more) read
    ∙ ap (λ (o : Option PartialFrame). option_map_or (λ next. frame_from clumps (0 + length rows + 1) next more) o (Err (Bad (0 + length rows + 1)))) bad
    ∙ ap (λ (k : ℕ). Err (Bad k)) none

-- all records of a text were read
pub frame-all : (clumps : ℕ) (text : List ℕ) (last : PartialFrame) (rows : List (List (List ℕ))) → AreRecords default_config st.StartRecord (strip_bom text) rows
    → read_on clumps nothing_read rows ≡ Some last → frame_of clumps text ≡ ok_or (whole_frame clumps last) (Short (length rows))
unfolding frame_of
frame-all clumps text last rows all read =
    ap (λ (l : List (List (List ℕ))). frame_from clumps 0 nothing_read l) (records-all (strip_bom text) rows all) ∙ frame_from-all clumps last rows read

-- a record of a text is the first that no good frame has there
pub frame-bad : (clumps : ℕ) (text : List ℕ) (last : PartialFrame) (rows : List (List (List ℕ))) (fields : List (List ℕ)) (s : ParserState) (ys : List ℕ)
    → Reached default_config st.StartRecord (strip_bom text) (rows ++ fields ∷ []) s ys → read_on clumps nothing_read rows ≡ Some last → with_record clumps last fields ≡ None
    → frame_of clumps text ≡ Err (Bad (length rows + 1))
unfolding frame_of
frame-bad clumps text last rows fields s ys reached read bad =
    let begins = records-begin (strip_bom text) (rows ++ fields ∷ []) s ys reached in
    ap (λ (l : List (List (List ℕ))). frame_from clumps 0 nothing_read l) (begins.same ∙ append_assoc rows (fields ∷ []) begins.more)
    ∙ frame_from-bad clumps last rows begins.more fields read bad

-- the records of a text, of which there are no more than bytes
pub record HasRows (clumps : ℕ) (text : List ℕ) : Type 0 where
  pub rows : List (List (List ℕ))
  pub few : length rows ≤ length text
  pub same : frame_of clumps text ≡ frame_from clumps 0 nothing_read rows

pub frame-rows : (clumps : ℕ) (text : List ℕ) → HasRows clumps text
unfolding frame_of
frame-rows clumps text =
    let rows = records-few (strip_bom text) in
    let bytes = strip-few text in
    record { rows = records default_config (strip_bom text); few = omega arith; same = refl }
