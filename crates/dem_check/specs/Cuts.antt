-- Where the last row of some bytes begins.
use Rattle.std.specs.Prelude.{◌≡◌, ℕ, ◌==◌, false, ⊤, List, [], ◌∷◌, ◌++◌, length, take}
use Rattle.dem_check.specs.Rows.{rows_of}

-- no byte is a newline
abbrev pub HasNoNewline : List ℕ → Type 0
HasNoNewline [] = ⊤
HasNoNewline (c ∷ cs) = ((c == 10) ≡ false) × HasNoNewline cs

-- the first p bytes are `rows` whole rows, `start` bytes long, and then a tail without a newline
pub record IsCut (bytes : List ℕ) (start rows p : ℕ) : Type 0 where
  pub head : List ℕ
  pub tail : List ℕ
  pub parts : take p bytes ≡ head ++ tail
  pub starts : start ≡ length head
  pub count : rows ≡ length (rows_of head)
  pub whole : (xs : List ℕ) → rows_of (head ++ xs) ≡ rows_of head ++ rows_of xs
  pub plain : HasNoNewline tail
