-- How the values of the command line are read.
use Rattle.std.specs.Prelude.{ℕ, ◌≤◌, Bool, ◌&&◌, ◌==◌, List, [], ◌∷◌, length, codes, Option, Some, None, if◌then◌else◌, nat_lt, nat_le, option_and_then}
use Rattle.std.specs.List.{list_all}
use Rattle.std.specs.Char.{is_ascii_digit}
use Rattle.std.specs.Str.{bytes_eq}
use Rattle.std.specs.Str.Parse.{digits_value}
use Rattle.std.specs.Option.{option_map_or}
use Rattle.clap.specs.Words.{Row, Text, first_of}
use Rattle.dem_model.specs.declared.state.Turn.{Turn}
use Rattle.dem_model.specs.declared.state.Turn.TheVariants.{Post, Take, Deliver, Collect, Step}
use Rattle.dem_words.specs.declared.order.Mode.{Mode}
use Rattle.dem_words.specs.declared.order.Mode.TheVariants as modes

infixl 10 ◌>>=◌
-- the next step of a reading, made where the one before gave a value
abbrev pub ◌>>=◌ : {A B : Type 0} → Option A → (A → Option B) → Option B
o >>= next = option_and_then next o

-- ---- numbers

-- one or more digits, and nothing else
abbrev pub is_numeral : Text → Bool
is_numeral text = nat_lt 0 (length text) && list_all is_ascii_digit text

-- the number that the digits write, where it is one from `low` to `high`
unfoldable pub number_from : ℕ → ℕ → Text → Option ℕ
number_from low high text =
    let n = digits_value 10 text in
    if is_numeral text && (nat_le low n && nat_le n high) then Some n else None

-- the number of an option, and what stands for it where it isn't given
unfoldable pub number_at : Text → ℕ → ℕ → ℕ → List Row → Option ℕ
number_at name low high default rows = option_map_or (number_from low high) (first_of name rows) (Some default)

-- ---- turns

-- the turn of a letter
unfoldable pub turn_from : ℕ → Option Turn
turn_from letter =
    if letter == 112 then Some Post
    else (if letter == 116 then Some Take
    else (if letter == 100 then Some Deliver else (if letter == 99 then Some Collect else (if letter == 115 then Some Step else None))))

-- the turns of the letters, in their order
unfoldable pub turns_from : Text → Option (List Turn)
turns_from [] = Some []
turns_from (letter ∷ letters) = do
  turn ← turn_from letter
  turns ← turns_from letters
  Some (turn ∷ turns)

-- the turns of the option, and none where it isn't given
unfoldable pub turns_at : Text → List Row → Option (List Turn)
turns_at name rows = option_map_or turns_from (first_of name rows) (Some [])

-- ---- modes

-- the mode of a name
unfoldable pub mode_from : Text → Option Mode
mode_from text =
    if bytes_eq text (codes "plain") then Some modes.Plain
    else (if bytes_eq text (codes "sched") then Some modes.Sched
    else (if bytes_eq text (codes "run") then Some modes.Run
    else (if bytes_eq text (codes "check") then Some modes.Check
    else (if bytes_eq text (codes "gen") then Some modes.Gen
    else (if bytes_eq text (codes "resume") then Some modes.Resume
    else (if bytes_eq text (codes "look") then Some modes.Look else (if bytes_eq text (codes "pack") then Some modes.Pack else None)))))))

-- the mode that is named
unfoldable pub mode_at : Text → List Row → Option Mode
mode_at name rows = do
  text ← first_of name rows
  mode_from text
