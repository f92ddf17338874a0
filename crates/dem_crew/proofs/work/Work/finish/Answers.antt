use Rattle.std.proofs.Common.{ℕ, List, Option, subst}
use Rattle.dem_outside.specs.Known.{AppendsPrefix}
use Rattle.dem_model.specs.Output.{output_of}
use Rattle.dem_model.specs.SceneValue.{SceneValue}
use Rattle.dem_crew.specs.Working.{IsKeptUp}
use Rattle.dem_crew.proofs.WorkFacts.{on-err}
use Rattle.dem_crew.proofs.NotedFacts.{noted-same}
use Rattle.dem_crew.specs.Running.{HasNoted}
use Rattle.dem_crew.proofs.work.Work.finish.Goals as goal

pub returns-in_err-was_busy-clause-so_far : goal.returns-in_err-was_busy-clause-so_far
returns-in_err-was_busy-clause-so_far g c =
    let f : (o n : Option (List ℕ)) → IsKeptUp o (g.K.Sink.held c.args.out.now) n (g.N.Sink.held c.args.note.now) c.args.self.now → AppendsPrefix o (g.K.Sink.held c.turn.new.out) (output_of c.args.self.now.course.scene) =
    λ o n k. subst (λ (s : SceneValue). AppendsPrefix o (g.K.Sink.held c.turn.new.out) (output_of s)) c.loop.invariant.2 (c.in_err-was_busy.ensures.so_far o n (c.loop.invariant.6 o n k)) in
    on-err _ f

pub returns-in_err-was_busy-clause-noted : goal.returns-in_err-was_busy-clause-noted
returns-in_err-was_busy-clause-noted g c =
    let f : (o n : Option (List ℕ)) → IsKeptUp o (g.K.Sink.held c.args.out.now) n (g.N.Sink.held c.args.note.now) c.args.self.now → HasNoted c.args.self.now.course.scene c.args.self.now.course.drift n (g.N.Sink.held c.turn.new.note) =
    λ o n k. noted-same _ _ _ _ n _ c.loop.invariant.2 c.loop.invariant.3 (c.in_err-was_busy.ensures.noted o n (c.loop.invariant.6 o n k)) in
    on-err _ f
