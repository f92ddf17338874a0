use Rattle.std.proofs.Common.{◌≡◌, map, take}
use Rattle.dem_model.specs.declared.state.Clump.{Clump}
use Rattle.dem_step.specs.Stored.{body_of}
use Rattle.dem_step.proofs.stored.StoredBodies.new.Given as goal

abbrev pub invariant-loop-clump : goal.invariant-loop-clump
invariant-loop-clump l = map body_of l.items.items ≡ map (λ (c : Clump). c.body) (take l.clump-index l.clump-items)
