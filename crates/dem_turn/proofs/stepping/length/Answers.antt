use Rattle.dem_num.proofs.QuatSizes.{quat_within_root}
use Rattle.dem_turn.proofs.stepping.length.Goals as goal

pub returns-clause-longest : goal.returns-clause-longest
returns-clause-longest c = quat_within_root c.args.t c.root.result (rw (← c.quat_norm2.ensures) c.root.ensures.is_root)
