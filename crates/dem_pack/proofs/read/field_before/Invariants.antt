use Rattle.dem_pack.proofs.CommaFacts.{NoComma}
use Rattle.dem_pack.proofs.read.field_before.Given as goal

abbrev pub invariant-loop-i : goal.invariant-loop-i
invariant-loop-i l = NoComma l.bytes l.i
