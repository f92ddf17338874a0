use Rattle.dem_frame.proofs.RowFacts.{row_text-one}
use Rattle.dem_frame.proofs.row.put_count.Goals as goal

pub returns-clause-written : goal.returns-clause-written
returns-clause-written g c =
    rw (← row_text-one c.new-row.result.items c.add.new.row.items c.add_number.new.row.items c.args.name.now c.args.count c.new-row.ensures c.add.ensures c.add_number.ensures.text)
    c.put.ensures.written
