use Rattle.std.proofs.Common.{subst}
use Rattle.dem_model.specs.Sound.{IsSound}
use Rattle.dem_save.proofs.WritableFacts.{frame-loads}
use Rattle.dem_save.proofs.laws.load_law.Goals as goal

pub returns : goal.returns
returns c = frame-loads c.args.scene.now (subst IsSound c.scene.view_is c.scene.invariant)
