-- The rows of a text: cut after each newline byte, a last piece without one being a row too.
use Rattle.std.specs.Prelude.{ℕ, ◌==◌, List, [], ◌∷◌, if◌then◌else◌}

-- a byte that isn't a newline stands at the beginning of the first row behind it
abbrev pub joined : ℕ → List (List ℕ) → List (List ℕ)
joined c [] = (c ∷ []) ∷ []
joined c (row ∷ rows) = (c ∷ row) ∷ rows

-- the rows, each with its newline
unfoldable pub rows_of : List ℕ → List (List ℕ)
rows_of [] = []
rows_of (c ∷ cs) = if c == 10 then (c ∷ []) ∷ rows_of cs else joined c (rows_of cs)

-- what stands before the first newline: a row without its own
unfoldable pub line_of : List ℕ → List ℕ
line_of [] = []
line_of (c ∷ cs) = if c == 10 then [] else c ∷ line_of cs
