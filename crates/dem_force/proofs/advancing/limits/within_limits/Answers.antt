use Rattle.std.proofs.Common.{◌-◌, ◌^◌, ◌∙◌, ◌≤◌, arith, sym, ap₂}
use Rattle.dem_num.specs.Rotations.{quat_norm2_of}
use Rattle.dem_model.specs.Advance.{body_with}
use Rattle.dem_num.proofs.VectorSizes.{within_wider}
use Rattle.dem_force.proofs.LimitFacts.{is_over-within, placed_from}
use Rattle.dem_force.proofs.SwingFacts.{limited-from}
use Rattle.dem_force.proofs.advancing.limits.within_limits.Goals as goal

pub narrow3-requires : goal.narrow3-requires
narrow3-requires c = within_wider c.args.v (2 ^ 40) (2 ^ 63 - 1) (c.is_too_fast.ensures.small c.if-is_too_fast.false) (omega arith)

pub narrow3-requires-2 : goal.narrow3-requires-2
narrow3-requires-2 c = within_wider c.args.w (2 ^ 28) (2 ^ 63 - 1) (c.spins_too_fast.ensures.small c.if-spins_too_fast.false) (omega arith)

pub moved-requires-clause-velocity_small : goal.moved-requires-clause-velocity_small
moved-requires-clause-velocity_small c = rw c.narrow3.ensures.same (c.is_too_fast.ensures.small c.if-is_too_fast.false)

pub moved-requires-clause-spin_small : goal.moved-requires-clause-spin_small
moved-requires-clause-spin_small c = rw c.narrow3-2.ensures.same (c.spins_too_fast.ensures.small c.if-spins_too_fast.false)

pub returns-clause-placed : goal.returns-clause-placed
returns-clause-placed c =
    placed_from c.args.scene.now c.args.balls.now c.moved.result c.kept_in.result c.kept_in.ensures.inside c.kept_in.ensures.same
    (rw (c.moved.ensures.velocity, c.narrow3.ensures.same) (is_over-within c.args.scene.now.speed c.args.v (sym c.is_too_fast.ensures.value ∙ c.if-is_too_fast.false)))
    (rw (c.moved.ensures.spin, c.narrow3-2.ensures.same) (is_over-within c.args.scene.now.spin c.args.w (sym c.spins_too_fast.ensures.value ∙ c.if-spins_too_fast.false)))
    c.moved.ensures.orientation

pub returns-clause-value : goal.returns-clause-value
returns-clause-value c =
    let long : 2 ^ 58 ≤ quat_norm2_of c.args.body.now.q = c.requires.orientation.long_enough in
    limited-from c.args.scene.now c.args.balls.now c.args.body.now c.args.v c.args.w c.moved.result c.kept_in.result
    (sym c.is_too_fast.ensures.value ∙ c.if-is_too_fast.false)
    (sym c.spins_too_fast.ensures.value ∙ c.if-spins_too_fast.false)
    (omega arith)
    (c.moved.ensures.value ∙ ap₂ (body_with c.args.body.now) c.narrow3.ensures.same c.narrow3-2.ensures.same)
    c.kept_in.ensures.value
