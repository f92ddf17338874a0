use Rattle.std.proofs.Common.{◌*◌, ◌/◌, ◌≤◌, arith}
use Rattle.dem_num.proofs.ProductBounds.{part_le}
use Rattle.dem_num.proofs.rounded.quotient_by.Goals as goal

pub near_quotient-requires-clause-fits : goal.near_quotient-requires-clause-fits
near_quotient-requires-clause-fits c =
    let less : 1 * c.args.x / c.args.whole ≤ c.args.x = part_le 1 c.args.whole c.args.x (omega arith) (omega arith) in
    grind arith

pub returns-clause-size : goal.returns-clause-size
returns-clause-size c =
    let less : 1 * c.args.x / c.args.whole ≤ c.args.x = part_le 1 c.args.whole c.args.x (omega arith) (omega arith) in
    grind arith
