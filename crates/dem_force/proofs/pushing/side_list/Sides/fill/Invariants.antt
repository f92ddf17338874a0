use Rattle.dem_force.proofs.SideFacts.{AreMade}
use Rattle.dem_force.proofs.pushing.side_list.Sides.fill.Given as goal

abbrev pub invariant-loop-s : goal.invariant-loop-s
invariant-loop-s l = AreMade l.shapes l.bodies l.s l.self-inside.items.items
