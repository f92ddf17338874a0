use Rattle.std.proofs.Common.{subst}
use Rattle.dem_model.specs.SceneValue.{SceneValue}
use Rattle.dem_look.specs.Looking.{WritesLook}
use Rattle.dem_look.proofs.LoopFacts.{new-run}
use Rattle.dem_look.proofs.looking.look.Goals as goal

pub look_on-requires-clause-starts : goal.look_on-requires-clause-starts
look_on-requires-clause-starts g c = new-run c.in_ok-shapes.shapes c.args.scene.now c.in_ok-run.run' c.in_ok-run.ensures c.in_ok-shapes.ensures

pub returns : goal.returns
returns g c =
    subst (λ (s : SceneValue). WritesLook s (g.K.Sink.held c.args.out.now) (g.K.Sink.held c.look_on.new.out) (g.K.Sink.faults c.args.out.now) (g.K.Sink.faults c.look_on.new.out) c.look_on.result)
    c.in_ok-shapes.ensures c.look_on.ensures
