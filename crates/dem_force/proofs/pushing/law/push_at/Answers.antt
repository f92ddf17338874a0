use Rattle.std.proofs.Common.{◌∙◌, sym, ap}
use Rattle.dem_num.specs.Vectors.{widened}
use Rattle.dem_turn.proofs.StillFacts.{is_zero-no_vector}
use Rattle.dem_model.specs.Law.{push_with}
use Rattle.dem_force.proofs.pushing.law.push_at.Goals as goal

pub returns-then-is_zero-clause-value : goal.returns-then-is_zero-clause-value
returns-then-is_zero-clause-value c =
    c.undragged.ensures.value
    ∙ ap (push_with c.args.law.now c.args.a.now c.args.b.now c.args.n c.args.delta c.args.normal c.args.h)
    (sym (is_zero-no_vector (widened c.args.trial) (sym c.is_zero.ensures ∙ c.if-is_zero.true)))
