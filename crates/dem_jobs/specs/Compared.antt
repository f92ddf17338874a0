-- What `check` makes of its input: the scene before the mark, the rows behind it, and what their comparison comes to.
use Rattle.std.specs.Prelude.{ℕ, suc, ◌+◌, List, [], ◌∷◌, ◌++◌, codes, decimal, Option, None, Some, option_map, if◌then◌else◌}
use Rattle.std.specs.Str.{bytes_eq}
use Rattle.dem_model.specs.SceneValue.{SceneValue}
use Rattle.dem_model.specs.Output.{output_of}
use Rattle.dem_check.specs.Rows.{rows_of}
use Rattle.dem_check.specs.Verdicts.{line_at}
use Rattle.dem_check.specs.declared.verdict.Line.{Line}
use Rattle.dem_check.specs.declared.verdict.Verdict.{Verdict as Compares}
use Rattle.dem_check.specs.declared.verdict.Verdict.TheVariants as compares
use Rattle.dem_jobs.specs.declared.outcome.Outcome.{Outcome}
use Rattle.dem_jobs.specs.declared.outcome.Outcome.TheVariants.{Reached, Differs}
use Rattle.dem_jobs.specs.Verdicts.{Verdict, Written, no_rows, no_frames_text}
use Rattle.dem_jobs.specs.Marks.{parted}

-- the line between a scene and its rows
abbrev pub frames_mark : List ℕ
frames_mark = codes "--frames--"

-- the place of the first row that differs, in what it has or in whether there is one
unfoldable pub difference_of : List (List ℕ) → List (List ℕ) → Option ℕ
difference_of [] [] = None
difference_of (k ∷ ks) [] = Some 0
difference_of [] (f ∷ fs) = Some 0
difference_of (k ∷ ks) (f ∷ fs) = if bytes_eq k f then option_map suc (difference_of ks fs) else Some 0

-- a row behind its name, and the name alone where there is no such row
unfoldable pub shown : List ℕ → Option Line → List ℕ
shown name None = name ++ codes "\n"
shown name (Some line) = name ++ (codes "," ++ (line.text ++ codes "\n"))

-- the number of the row that differs, counted from 1
unfoldable pub differs_text : ℕ → List ℕ
differs_text row = codes "differs," ++ decimal row ++ codes "\n"

-- what is written of a difference at this place
unfoldable pub difference_text : (rows output : List ℕ) → ℕ → List ℕ
difference_text rows output i = differs_text (i + 1) ++ (shown (codes "kept") (line_at rows i) ++ shown (codes "found") (line_at output i))

-- the same rows, or the first difference
abbrev pub by_difference : (rows output : List ℕ) → Option ℕ → Verdict
by_difference rows output None = Written 0 (codes "same\n") no_rows
by_difference rows output (Some i) = Written 7 (difference_text rows output i) no_rows

-- what rows come to that should be the output of a scene
unfoldable pub compared : List ℕ → SceneValue → Verdict
compared rows s = by_difference rows (output_of s) (difference_of (rows_of rows) (rows_of (output_of s)))

-- what is written of a verdict of the comparison
abbrev pub verdict_text : Compares → List ℕ
verdict_text compares.Same = codes "same\n"
verdict_text (compares.Differs row kept found) = differs_text row ++ (shown (codes "kept") kept ++ shown (codes "found") found)

-- how the job ends by it
abbrev pub verdict_outcome : Compares → Outcome
verdict_outcome compares.Same = Reached
verdict_outcome (compares.Differs row kept found) = Differs

-- what an input of `check` comes to
abbrev pub check_verdict : List ℕ → Verdict
check_verdict = parted frames_mark no_frames_text (λ text rows. compared rows)
