use Rattle.dem_model.specs.Pairs.{pairs_below}
use Rattle.dem_plain.specs.Inside.{Holds}
use Rattle.dem_plain.proofs.met.all_met.Given as goal

abbrev pub invariant-loop-a : goal.invariant-loop-a
invariant-loop-a l = Holds l.shapes l.bodies l.spheres.centers l.held (pairs_below l.shapes l.a) l.met
