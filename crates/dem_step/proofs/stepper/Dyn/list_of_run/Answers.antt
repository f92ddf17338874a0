use Rattle.dem_step.proofs.KeptFacts.{list-of-run}
use Rattle.dem_step.proofs.stepper.Dyn.list_of_run.Goals as goal

pub returns : goal.returns
returns c = list-of-run c.args.self.now.scene c.args.self.now.drift c.args.snap.now c.args.list.now c.requires.snapshot c.requires.near
