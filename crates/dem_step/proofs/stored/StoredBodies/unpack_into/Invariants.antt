use Rattle.std.proofs.Common.{◌≡◌, length, take}
use Rattle.dem_step.proofs.stored.StoredBodies.unpack_into.Given as goal

abbrev pub invariant-loop-k : goal.invariant-loop-k
invariant-loop-k l = (take l.k l.bodies ≡ take l.k l.self) × (length l.bodies ≡ length l.self)
