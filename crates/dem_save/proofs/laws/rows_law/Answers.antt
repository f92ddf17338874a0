use Rattle.dem_save.proofs.WritableFacts.{rows-load}
use Rattle.dem_save.proofs.laws.rows_law.Goals as goal

pub returns : goal.returns
returns c = rows-load c.args.scene.now
