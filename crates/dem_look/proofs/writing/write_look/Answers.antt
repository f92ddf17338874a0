use Rattle.std.proofs.Common.{FitsSigned, w64, rules}
use Rattle.std.proofs.lemmas.Int.{to_z-of_z}
use Rattle.dem_look.proofs.RowFacts.{look-built}
use Rattle.dem_look.proofs.writing.write_look.Goals as goal

pub returns-clause-written : goal.returns-clause-written
returns-clause-written g c =
    let top : FitsSigned w64 c.args.row.top = search rules in
    rw (← look-built c.new-text.result.items c.add.new.row.items c.add_number.new.row.items c.add_number-2.new.row.items c.add_number-3.new.row.items c.add_number-4.new.row.items
    c.add_number-5.new.row.items c.add_number-6.new.row.items c.add_number-7.new.row.items c.args.row c.new-text.ensures c.add.ensures
    c.add_number.ensures.text (simp to_z-of_z at c.add_number-2.ensures.text) c.add_number-3.ensures.text c.add_number-4.ensures.text
    c.add_number-5.ensures.text c.add_number-6.ensures.text c.add_number-7.ensures.text)
    c.put.ensures.written
