use Rattle.std.proofs.Common.{◌^◌, ◌∙◌, sym}
use Rattle.dem_force.proofs.LimitFacts.{not_over-within}
use Rattle.dem_force.proofs.advancing.limits.spins_too_fast.Goals as goal

pub returns-clause-small : goal.returns-clause-small
returns-clause-small c = λ e. not_over-within c.scene.inside.spin (2 ^ 28) c.args.w (sym e ∙ c.is_over.ensures) c.scene.invariant.spin.le_high
