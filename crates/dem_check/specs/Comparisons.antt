-- A comparison under way: how far the output is that of the text, and the rest of the first row that isn't.
use Rattle.std.specs.Prelude.{◌≡◌, ℕ, ◌≤◌, ◌<◌, ⊤, ◌⊎◌, Bool, true, false, List, [], ◌∷◌, ◌++◌, length, take, slice_get, Some}
use Rattle.dem_check.specs.Cuts.{HasNoNewline}

pub record Comparison : Type 0 where
  -- what the output is compared with
  pub text : List ℕ
  -- so many bytes of the text are those of the output
  pub at : ℕ
  -- what the output has behind them in the same row, from the first byte that isn't the text's
  pub rest : List ℕ
  -- that row is ended
  pub whole : Bool
  -- there was no memory for that row
  pub short : Bool
  -- how many puts have failed
  pub faults : ℕ

-- the output so far
abbrev pub held_of : Comparison → List ℕ
held_of c = take c.at c.text ++ c.rest

-- the text and the output so far, parted by a mark that is no byte: whoever appends to this has changed neither
abbrev pub marked : Comparison → List ℕ
marked c = c.text ++ 256 ∷ held_of c

-- each number is that of a byte
abbrev pub AreBytes : List ℕ → Type 0
AreBytes [] = ⊤
AreBytes (x ∷ xs) = (x < 256) × AreBytes xs

-- what a comparison keeps
pub record IsComparison (c : Comparison) : Type 0 where
  pub bytes : AreBytes c.text
  pub within : c.at ≤ length c.text
  pub parted : (x : ℕ) (xs : List ℕ) → c.rest ≡ x ∷ xs → slice_get c.text c.at ≡ Some x → ⊥
  pub ended : c.whole ≡ true → (row : List ℕ) × (c.rest ≡ row ++ 10 ∷ []) × HasNoNewline row
  pub going : c.whole ≡ false → HasNoNewline c.rest
  pub stops : (c.faults ≡ 0) ⊎ ((c.whole ≡ true) ⊎ (c.short ≡ true))
