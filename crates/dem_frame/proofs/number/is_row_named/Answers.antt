use Rattle.std.proofs.Common.{refl}
use Rattle.dem_frame.specs.Records.{is_row}
use Rattle.dem_frame.proofs.number.is_row_named.Goals as goal

pub returns-then-eq : goal.returns-then-eq
unfolding is_row
returns-then-eq c = rw (← c.in-Some.ensures.value, ← c.if-eq.ensures, c.len.ensures) refl

pub returns-else-eq : goal.returns-else-eq
unfolding is_row
returns-else-eq c = rw (← c.in-Some.ensures.value, ← c.if-eq.ensures) c.if-eq.false

pub returns-in-None : goal.returns-in-None
unfolding is_row
returns-in-None c = rw (← c.in-None.ensures.value) refl
