use Rattle.std.proofs.Common.{ℕ, ◌+◌, ◌≤◌, ◌∙◌, sym, ap₂, arith}
use Rattle.std.specs.Prelude.{max}
use Rattle.dem_pack.proofs.ExtentFacts.{extent-none, extent-more}
use Rattle.dem_pack.proofs.extent.extent.Goals as goal

pub loop-ball-init : goal.loop-ball-init
loop-ball-init c = (extent-none, omega arith, λ (h : 1 ≤ 0). h)

pub loop-ball-preserved : goal.loop-ball-preserved
loop-ball-preserved c = (
  c.max-extent.ensures ∙ ap₂ (λ (a b : ℕ). max a b) c.loop-ball.invariant.0 c.reach.ensures.value ∙ sym (extent-more c.args.balls.now c.loop-ball.ball-index _ c.loop-ball-test.true),
  omega (arith, c.max-extent.ensures, c.loop-ball.invariant.1, c.reach.ensures.few),
  λ (h : 1 ≤ c.loop-ball.ball-index + 1). omega (arith, c.max-extent.ensures, c.reach.ensures.some),
)
