use Rattle.std.proofs.Common.{◌≡◌, map, take}
use Rattle.dem_model.specs.declared.state.Clump.{Clump}
use Rattle.dem_shape.proofs.start.first_bodies.Given as goal

abbrev pub invariant-loop-clump : goal.invariant-loop-clump
invariant-loop-clump l = l.bodies ≡ map (λ (c : Clump). c.body) (take l.clump-index l.clump-items)
