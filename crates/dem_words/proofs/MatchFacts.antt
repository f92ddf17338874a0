-- What a getter of the matches reads, by their rows.
use Rattle.std.proofs.Common.{◌≡◌, ℕ, List}
use Rattle.clap.specs.Words.{Text, first_of, first_value, rows_of}
use Rattle.clap.specs.declared.parser.matches.Found.{Found}
use Rattle.clap.proofs.WalkLemmas.{first_value-rows}

-- the first value of an id is that of its row
pub first_value_is : (f : Found) (id : Text) → first_value f id ≡ first_of id (rows_of f)
first_value_is f id = first_value-rows f id
