use Rattle.std.proofs.Common.{◌≡◌, ◌≤◌, length, map}
use Rattle.dem_step.specs.Advancing.{AreAdvancedBetween}
use Rattle.dem_step.specs.Stored.{body_of}
use Rattle.dem_step.proofs.advancing.advance_range.Given as goal

abbrev pub invariant-loop-clump : goal.invariant-loop-clump
invariant-loop-clump l =
    AreAdvancedBetween l.shapes l.bodies l.loads l.from l.clump (map body_of l.next)
    × (length l.next ≡ length l.fn.next)
    × (l.from ≤ l.clump)
