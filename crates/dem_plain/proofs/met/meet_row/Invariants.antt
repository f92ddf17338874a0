use Rattle.std.proofs.Common.{◌++◌}
use Rattle.dem_model.specs.Pairs.{pairs_below, row_below}
use Rattle.dem_plain.specs.Inside.{Holds}
use Rattle.dem_plain.proofs.met.meet_row.Given as goal

abbrev pub invariant-loop-b : goal.invariant-loop-b
invariant-loop-b l = Holds l.shapes l.bodies l.spheres.centers l.held (pairs_below l.shapes l.a ++ row_below l.shapes l.a l.b) l.met
