use Rattle.std.proofs.Common.{◌≡◌, arith, length-append}
use Rattle.dem_check.proofs.LineFacts.{one_row}
use Rattle.dem_check.proofs.rows.row.Goals as goal

pub returns : goal.returns
returns c =
    one_row c.args.tail.now c.args.more.now _ c.requires
    (λ e. c.if-saturating_add-eq0.false (omega (arith, e, length-append c.args.tail.now c.args.more.now, c.saturating_add.ensures))) c.in_ok-line.ensures
