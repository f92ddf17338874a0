use Rattle.std.proofs.Common.{◌^◌, ◌∙◌, sym}
use Rattle.dem_force.proofs.LimitFacts.{not_over-within}
use Rattle.dem_force.proofs.advancing.limits.is_too_fast.Goals as goal

pub returns-clause-small : goal.returns-clause-small
returns-clause-small c = λ e. not_over-within c.scene.inside.speed (2 ^ 40) c.args.v (sym e ∙ c.is_over.ensures) c.scene.invariant.speed.le_high
