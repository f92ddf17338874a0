use Rattle.std.proofs.Common.{ap, ◌∙◌}
use Rattle.dem_model.specs.World.{done_at}
use Rattle.dem_core.proofs.RunningFacts.{begins-held, begins-kept, begins-view, begins-writes}
use Rattle.dem_core.proofs.course.Course.new.Goals as goal

pub write_reached-requires : goal.write_reached-requires
write_reached-requires g c = begins-held c.args.shapes.now c.args.drift c.in_ok-run.run' c.in_ok-run.ensures

pub invariant_of-result : goal.invariant_of-result
invariant_of-result g c = begins-kept c.args.shapes.now c.args.drift c.in_ok-run.run' c.done_at.result c.in_ok-run.ensures (c.done_at.ensures ∙ ap (λ s. done_at s 0) c.scene.ensures.value)

pub returns : goal.returns
returns g c =
    let text = begins-writes c.args.shapes.now c.args.drift c.in_ok-run.run' c.in_ok-run.ensures in (
      begins-view c.args.shapes.now c.args.drift c.in_ok-run.run' c.done_at.result c.in_ok-run.ensures (c.done_at.ensures ∙ ap (λ s. done_at s 0) c.scene.ensures.value),
      rw text at c.in_ok-write_reached.ensures.written,
      c.in_ok-write_reached.ensures.count,
    )
