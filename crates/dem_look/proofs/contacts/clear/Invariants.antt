use Rattle.std.proofs.Common.{◌≡◌, take, replicate}
use Rattle.dem_look.proofs.contacts.clear.Given as goal

abbrev pub invariant-loop-k : goal.invariant-loop-k
invariant-loop-k l = take l.k l.counts ≡ replicate l.k 0
