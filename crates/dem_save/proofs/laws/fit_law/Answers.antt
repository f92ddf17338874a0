use Rattle.std.proofs.Common.{subst}
use Rattle.dem_model.specs.Sound.{IsSound}
use Rattle.dem_save.proofs.FitFacts.{run-fit, plain-fit}
use Rattle.dem_save.proofs.laws.fit_law.Goals as goal

pub returns-clause-run : goal.returns-clause-run
returns-clause-run c = run-fit c.args.scene.now

pub returns-clause-plain : goal.returns-clause-plain
returns-clause-plain c = plain-fit c.args.scene.now (subst IsSound c.scene.view_is c.scene.invariant)
