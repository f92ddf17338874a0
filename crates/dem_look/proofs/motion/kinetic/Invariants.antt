use Rattle.std.proofs.Common.{◌≡◌, ◌≤◌, ◌*◌, ◌^◌}
use Rattle.std.specs.List.{sum_by, range_with_len}
use Rattle.dem_model.specs.Look.{motion_of}
use Rattle.dem_look.proofs.motion.kinetic.Given as goal

abbrev pub invariant-loop-clump : goal.invariant-loop-clump
invariant-loop-clump l = (l.sum ≡ sum_by (motion_of l.shapes l.state) (range_with_len 0 l.clump)) × (l.sum ≤ l.clump * (3 * 2 ^ 88))
