use Rattle.std.proofs.Common.{◌≡◌}
use Rattle.dem_trial.proofs.trial.side_by_side.Given as goal

abbrev pub invariant-loop : goal.invariant-loop
invariant-loop g l = l.plain.scene ≡ l.run.scene
