use Rattle.std.proofs.Common.{sym, ◌∙◌}
use Rattle.csv.specs.Records.{fields_of}
use Rattle.dem_frame.proofs.FieldFacts.{is_row-length}
use Rattle.dem_frame.proofs.number.row_numbers.Goals as goal

pub numbers_behind-requires-clause-whole : goal.numbers_behind-requires-clause-whole
numbers_behind-requires-clause-whole c =
    is_row-length c.args.name.now c.args.count (fields_of c.args.row.now) (sym c.is_row_named.ensures ∙ c.if-is_row_named.true)
