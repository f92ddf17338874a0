use Rattle.std.proofs.Common.{sym}
use Rattle.dem_force.proofs.StillSpinFacts.{spin_still}
use Rattle.dem_force.proofs.advancing.body.next_spin.Goals as goal

pub returns-then-are_zero-clause-value : goal.returns-then-are_zero-clause-value
returns-then-are_zero-clause-value c =
    sym (spin_still c.args.moments c.args.body.now c.args.torque (c.are_zero.ensures.spin c.if-are_zero.true) (c.are_zero.ensures.torque c.if-are_zero.true))
