use Rattle.std.proofs.Common.{◌≡◌, ◌+◌, length, drop}
use Rattle.csv.specs.Records.{fields_of}
use Rattle.dem_frame.proofs.FieldFacts.{Reads}
use Rattle.dem_frame.proofs.number.numbers_behind.Given as goal

abbrev pub invariant-loop-i : goal.invariant-loop-i
invariant-loop-i l =
    Reads l.numbers.items (drop (l.i + 1) (fields_of l.row)) (drop 1 (fields_of l.row)) × (length l.numbers.items ≡ l.i)
