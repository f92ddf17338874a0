use Rattle.std.proofs.Common.{sym}
use Rattle.dem_force.proofs.LimitFacts.{leaves_box-inside}
use Rattle.dem_force.proofs.advancing.limits.turned_in.Goals as goal

pub returns-clause-inside : goal.returns-clause-inside
returns-clause-inside c = leaves_box-inside c.args.scene.now c.args.balls.now c.args.new (sym c.if-leaves.ensures)
