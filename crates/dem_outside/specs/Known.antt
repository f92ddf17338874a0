-- What a put does to the bytes that a sink holds, where those are known.
use Rattle.std.specs.Prelude.{◌≡◌, ℕ, List, ◌++◌, Option, Result, MatchResult}
use Rattle.std.specs.Io.KnownBytes.{Appends}

-- known bytes grew by a prefix of the text
abbrev pub AppendsPrefix : Option (List ℕ) → Option (List ℕ) → List ℕ → Type 0
AppendsPrefix old new text = (prefix : List ℕ) × (rest : List ℕ) × (prefix ++ rest ≡ text) × Appends old new prefix

-- known bytes grew by the whole text where the call answered Ok, and else by a prefix of it
abbrev pub PutAppends : {T E : Type 0} → Option (List ℕ) → Option (List ℕ) → Result T E → List ℕ → Type 0
PutAppends old new result text = MatchResult result (λ _. Appends old new text) (λ _. AppendsPrefix old new text)
