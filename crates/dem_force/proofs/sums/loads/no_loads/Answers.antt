use Rattle.std.proofs.Common.{◌≡◌, length, replicate, ap, ◌∙◌, arith}
use Rattle.dem_model.specs.SceneValue.{SceneValue}
use Rattle.dem_model.specs.Step.{no_load}
use Rattle.dem_force.proofs.sums.loads.no_loads.Goals as goal

pub returns : goal.returns
returns c =
    let n : c.loop.counter ≡ c.len-end.result = omega arith in
    c.loop.invariant ∙ ap (λ k. replicate k no_load) (n ∙ c.len-end.ensures ∙ ap (λ (s : SceneValue). length s.clumps) (c.behind-shapes.view_is ∙ c.scene.ensures.value))
