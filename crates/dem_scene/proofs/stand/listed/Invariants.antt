use Rattle.std.proofs.Common.{◌≡◌, take}
use Rattle.dem_scene.proofs.stand.listed.Given as goal

-- the bytes so far
abbrev pub invariant-loop-byte : goal.invariant-loop-byte
invariant-loop-byte l = l.list ≡ take l.byte-index l.bytes
