use Rattle.std.proofs.Common.{sym, ap, ◌∙◌}
use Rattle.std.specs.Prelude.{not}
use Rattle.dem_force.proofs.LimitFacts.{leaves_box-inside}
use Rattle.dem_force.proofs.CenteredFacts.{own_leaves}
use Rattle.dem_force.proofs.advancing.limits.centered_in.Goals as goal

pub returns-then-in_box-clause-inside : goal.returns-then-in_box-clause-inside
returns-then-in_box-clause-inside c =
    leaves_box-inside c.args.scene.now c.args.balls.now c.args.new
    (own_leaves c.args.scene.now c.args.balls.now c.args.new c.requires.centered ∙ ap not (sym c.in_box.ensures ∙ c.if-in_box.true))
