use Rattle.std.proofs.Common.{◌-◌}
use Rattle.dem_gen.proofs.EdgeFacts.{Searched}
use Rattle.dem_gen.proofs.cube.edge.Given as goal

abbrev pub invariant-loop-edge : goal.invariant-loop-edge
invariant-loop-edge l = Searched l.count l.edge

abbrev pub decreases-loop-edge : goal.decreases-loop-edge
decreases-loop-edge l = 27 - l.edge
