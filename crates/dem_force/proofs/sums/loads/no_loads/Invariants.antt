use Rattle.std.proofs.Common.{◌≡◌, replicate}
use Rattle.dem_model.specs.Step.{no_load}
use Rattle.dem_force.proofs.sums.loads.no_loads.Given as goal

abbrev pub invariant-loop : goal.invariant-loop
invariant-loop l = l.loads.items ≡ replicate l.counter no_load
