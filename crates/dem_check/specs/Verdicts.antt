-- What the comparison of a text with an output comes to.
use Rattle.std.specs.Prelude.{◌≡◌, ℕ, ◌+◌, List, take, slice_get, Option, option_map}
use Rattle.dem_check.specs.Rows.{rows_of, line_of}
use Rattle.dem_check.specs.declared.verdict.Line.{Line}
use Rattle.dem_check.specs.declared.verdict.Verdict.{Verdict}
use Rattle.dem_check.specs.declared.verdict.Verdict.TheVariants.{Same, Differs}

-- place i is the first at which two lists of rows differ: in the row there, or in whether there is one
pub record DiffersFirst (kept found : List (List ℕ)) (i : ℕ) : Type 0 where
  pub before : take i kept ≡ take i found
  pub here : slice_get kept i ≡ slice_get found i → ⊥

-- the row at place i of a text, without its newline, where there is one
abbrev pub line_at : List ℕ → ℕ → Option Line
line_at text i = option_map (λ row. record { text = line_of row }) (slice_get (rows_of text) i)

-- the verdict on a text: the same as the output, or the first row that differs, counted from 1, with what each has there
abbrev pub Checks : (text output : List ℕ) → Verdict → Type 0
Checks text output Same = text ≡ output
Checks text output (Differs row kept found) =
    (i : ℕ) × (row ≡ i + 1) × DiffersFirst (rows_of text) (rows_of output) i × (kept ≡ line_at text i) × (found ≡ line_at output i)
