use Rattle.std.proofs.Common.{◌≡◌, ◌^◌, ◌≤◌, arith, true, to_z, of_z, unsigned_abs, ap, sym, ◌∙◌}
use mir.Syntax.{w64}
use Rattle.std.proofs.lemmas.Int.{to_z-of_z, fits_signed_from_abs}
use Rattle.dem_num.specs.declared.vector.Wide3.{Wide3}
use Rattle.dem_num.specs.Vectors.{widened, no_vector}
use Rattle.dem_model.specs.Law.{pushed_of, rolling_of, with_rolling}
use Rattle.dem_model.specs.declared.law.Push.{Push}
use Rattle.dem_force.proofs.RollFacts.{resisted_is, rolling_nothing, resting, wall_rests, unrolled_small}
use Rattle.dem_force.proofs.pushing.law.pushed.Goals as goal

pub returns-then-law-ne0-clause-value : goal.returns-then-law-ne0-clause-value
unfolding pushed_of
returns-then-law-ne0-clause-value c =
    let speed = c.motion_between-motion.result.speed in
    let small : unsigned_abs speed ≤ 2 ^ 50 = c.motion_between-motion.ensures.speed_size in
    let same : to_z w64 (of_z w64 speed) ≡ speed = to_z-of_z w64 speed (fits_signed_from_abs w64 speed (omega arith)) in
    let normal = rw same at c.normal_force-normal.ensures.value in
    let whole : with_rolling c.args.b.now (rolling_of c.args.law.now c.args.a.now c.args.b.now c.args.n c.normal_force-normal.result) c.push_at-push.result
    ≡ pushed_of c.args.law.now c.args.a.now c.args.b.now c.args.n c.args.delta c.args.h0 =
    cc (
      normal,
      c.effective_radius.ensures.value,
      c.contact_radius-c.ensures.value,
      c.effective_mass-mass.ensures.value,
      c.motion_between-motion.ensures.speed,
      c.motion_between-motion.ensures.slip,
      c.carried-h.ensures.value,
      c.trial-trial.ensures.value,
      c.push_at-push.ensures.value,
    ) in
    resisted_is c.args.b.now (rolling_of c.args.law.now c.args.a.now c.args.b.now c.args.n c.normal_force-normal.result) c.push_at-push.result
    c.resisted-torques.result.first c.resisted-torques.result.second c.resisted-torques.ensures.first c.resisted-torques.ensures.second ∙ whole

pub returns-else-law-ne0-clause-value : goal.returns-else-law-ne0-clause-value
unfolding pushed_of
returns-else-law-ne0-clause-value c =
    let speed = c.motion_between-motion.result.speed in
    let small : unsigned_abs speed ≤ 2 ^ 50 = c.motion_between-motion.ensures.speed_size in
    let same : to_z w64 (of_z w64 speed) ≡ speed = to_z-of_z w64 speed (fits_signed_from_abs w64 speed (omega arith)) in
    let normal = rw same at c.normal_force-normal.ensures.value in
    let whole : with_rolling c.args.b.now (rolling_of c.args.law.now c.args.a.now c.args.b.now c.args.n c.normal_force-normal.result) c.push_at-push.result
    ≡ pushed_of c.args.law.now c.args.a.now c.args.b.now c.args.n c.args.delta c.args.h0 =
    cc (
      normal,
      c.effective_radius.ensures.value,
      c.contact_radius-c.ensures.value,
      c.effective_mass-mass.ensures.value,
      c.motion_between-motion.ensures.speed,
      c.motion_between-motion.ensures.slip,
      c.carried-h.ensures.value,
      c.trial-trial.ensures.value,
      c.push_at-push.ensures.value,
    ) in
    let still : c.args.b.now.wall ≡ true → c.push_at-push.result.torque_b ≡ no_vector =
    λ w. ap (λ (p : Push). p.torque_b) c.push_at-push.ensures.value
    ∙ wall_rests c.args.law.now c.args.a.now c.args.b.now c.args.n c.args.delta c.normal_force-normal.result c.carried-h.result (widened c.trial-trial.result) c.requires.sphere_or_wall w in
    sym (resting c.args.b.now c.push_at-push.result still)
    ∙ ap (λ (r : Wide3). with_rolling c.args.b.now r c.push_at-push.result)
    (sym (rolling_nothing c.args.law.now c.args.a.now c.args.b.now c.args.n c.normal_force-normal.result c.if-law-ne0.false)) ∙ whole

pub returns-else-law-ne0-clause-size : goal.returns-else-law-ne0-clause-size
returns-else-law-ne0-clause-size c = unrolled_small c.push_at-push.result c.push_at-push.ensures.size
