use Rattle.std.proofs.Common.{sym}
use Rattle.dem_force.proofs.NothingFacts.{push_undragged}
use Rattle.dem_force.proofs.pushing.law.undragged.Goals as goal

pub returns-clause-value : goal.returns-clause-value
returns-clause-value c =
    rw (c.torque_on_first.ensures.value, c.torque_on_second.ensures.value, c.held_where.ensures.value, c.force_on_first-force.ensures.value)
    (sym (push_undragged c.args.law.now c.args.a.now c.args.b.now c.args.n c.args.delta c.args.normal c.args.h))
