-- What the words of the command line mean: an order, or nothing where they are no good.
use Rattle.std.specs.Prelude.{◌≡◌, ℕ, ◌^◌, ◌-◌, List, codes, Option, Some, None, Result, Ok, Err, ⊤}
use Rattle.std.specs.declared.alloc.Global.{Global}
use Rattle.std.specs.declared.string.String.{String}
use Rattle.clap.specs.Words.{Row, Text, found_of, rows_of}
use Rattle.clap.specs.declared.error.kind.ErrorKind.{ErrorKind}
use Rattle.clap.specs.declared.error.kind.ErrorKind.TheVariants as kinds
use Rattle.clap.specs.declared.parser.matches.ArgMatches.{ArgMatches}
use Rattle.dem_words.specs.CommandLine.{has_flag, matches, texts}
use Rattle.dem_words.specs.Values.{◌>>=◌, mode_at, number_at, turns_at}
use Rattle.dem_words.specs.Orders.{OrderValue}
use Rattle.dem_words.specs.declared.order.WordFault.{WordFault}
use Rattle.dem_words.specs.declared.order.WordFault.TheVariants.{Usage, OutOfMemory}

-- the order of what the command matched
unfoldable pub order_of : List Row → Option OrderValue
order_of rows = do
  mode ← mode_at (codes "mode") rows
  drift ← number_at (codes "drift") 0 1024 20 rows
  bin ← number_at (codes "bin") 0 (2 ^ 38) 0 rows
  turns ← turns_at (codes "turns") rows
  seed ← number_at (codes "seed") 0 (2 ^ 64 - 1) 1 rows
  count ← number_at (codes "count") 1 16384 100 rows
  Some (record {
    mode = mode;
    drift = drift;
    bin = bin;
    turns = turns;
    seed = seed;
    count = count;
    report = has_flag (codes "report") rows;
    split = has_flag (codes "split") rows;
  })

-- the order of these words; none where the command refuses them, or a value is wrong
unfoldable pub words_of : List (String Global) → Option OrderValue
words_of words = do
  rows ← matches (texts words)
  order_of rows

-- a reading gives what the definition has, Usage where that has nothing; out of memory tells nothing
abbrev pub Reads : {A : Type 0} → Option A → Result A WordFault → Type 0
Reads meaning (Ok x) = meaning ≡ Some x
Reads meaning (Err Usage) = meaning ≡ None
Reads meaning (Err OutOfMemory) = ⊤

-- the command's answer on words has what it matches in them, and Usage where it refuses them
abbrev pub Matches : List Text → Result ArgMatches WordFault → Type 0
Matches words (Ok m) = matches words ≡ Some (rows_of (found_of m))
Matches words (Err Usage) = matches words ≡ None
Matches words (Err OutOfMemory) = ⊤

-- a refusal that isn't for memory is one of the words
abbrev pub fault_by : ErrorKind → WordFault
fault_by kinds.OutOfMemory = OutOfMemory
fault_by kind = Usage
