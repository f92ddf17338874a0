use Rattle.std.proofs.Common.{◌≡◌}
use Rattle.dem_trial.proofs.trial.one_list.Given as goal

abbrev pub invariant-loop : goal.invariant-loop
invariant-loop g l = (l.plain.scene ≡ l.fn.plain.scene) × (l.run.scene ≡ l.fn.run.scene) × (l.run.drift ≡ l.fn.run.drift)
