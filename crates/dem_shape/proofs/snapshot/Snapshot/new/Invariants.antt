use Rattle.std.proofs.Common.{◌≡◌, replicate}
use Rattle.dem_model.specs.Centers.{still_body}
use Rattle.dem_shape.proofs.snapshot.Snapshot.new.Given as goal

abbrev pub invariant-loop : goal.invariant-loop
invariant-loop l = l.bodies ≡ replicate l.counter still_body
