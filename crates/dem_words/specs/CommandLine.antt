-- The command line as one simple command: a mode, five options with one value each, and two flags.
use Rattle.std.specs.Prelude.{ℕ, Bool, true, false, List, codes, Option, Some, None, map, if◌then◌else◌}
use Rattle.std.specs.Option.{option_map_or}
use Rattle.std.specs.Str.{bytes_eq}
use Rattle.std.specs.String.{string_bytes}
use Rattle.std.specs.declared.alloc.Global.{Global}
use Rattle.std.specs.declared.string.String.{String}
use Rattle.clap.specs.Words.{App, Row, Rule, Text, fault_of, first_of, matches_of, new_app, new_rule, with_rule}
use Rattle.clap.specs.Walk.{is_empty}
use Rattle.clap.specs.declared.builder.action.ArgAction.TheVariants.{SetTrue}

-- the mode, which has to be there
abbrev pub mode_rule : Rule
mode_rule = record (new_rule (codes "mode")) { required = true }

-- `--NAME VALUE`
abbrev pub option_rule : Text → Rule
option_rule name = record (new_rule name) { long = Some name }

-- `--NAME`
abbrev pub flag_rule : Text → Rule
flag_rule name = record (new_rule name) { long = Some name; action = Some SetTrue }

abbrev pub command_with_mode : App
command_with_mode = with_rule (new_app (codes "dem")) mode_rule

abbrev pub command_with_options : App
command_with_options =
    with_rule
    (with_rule (with_rule (with_rule (with_rule command_with_mode (option_rule (codes "drift"))) (option_rule (codes "bin"))) (option_rule (codes "turns"))) (option_rule (codes "seed")))
    (option_rule (codes "count"))

-- the command of the program
abbrev pub command : App
command = with_rule (with_rule command_with_options (flag_rule (codes "report"))) (flag_rule (codes "split"))

-- the bytes of each word; the first word is the program's name
abbrev pub texts : List (String Global) → List Text
texts = map string_bytes

-- what the command matches in the words, where it doesn't refuse them; a request for help is refused too
unfoldable pub matches : List Text → Option (List Row)
matches words = if is_empty (fault_of command words) then Some (matches_of command words) else None

-- whether a flag is given
unfoldable pub has_flag : Text → List Row → Bool
has_flag name rows = option_map_or (λ text. bytes_eq text (codes "true")) (first_of name rows) false
