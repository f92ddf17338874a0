use Rattle.std.proofs.Common.{ℕ, List, Option, subst}
use Rattle.dem_outside.specs.Known.{AppendsPrefix}
use Rattle.dem_model.specs.Output.{output_of}
use Rattle.dem_model.specs.SceneValue.{SceneValue}
use Rattle.dem_crew.specs.Running.{HasRun, HasNoted}
use Rattle.dem_crew.specs.Working.{IsKeptUp}
use Rattle.dem_crew.proofs.WorkFacts.{on-err}
use Rattle.dem_crew.proofs.NotedFacts.{noted-same}
use Rattle.dem_crew.proofs.work.Work.run.Goals as goal

pub returns-in_err-close-clause-so_far : goal.returns-in_err-close-clause-so_far
returns-in_err-close-clause-so_far g c =
    let h : (o n : Option (List ℕ)) → IsKeptUp o (g.K.Sink.held c.args.out.now) n (g.N.Sink.held c.args.note.now) c.args.self.now → AppendsPrefix o (g.K.Sink.held c.finish.new.out) (output_of c.args.self.now.course.scene) =
    λ o n kept. subst (λ (s : SceneValue). AppendsPrefix o (g.K.Sink.held c.finish.new.out) (output_of s)) c.in_ok-last.ensures.scene
    (c.close.ensures.so_far o (g.K.Sink.held c.finish.new.out) _ _ (c.in_ok-last.ensures.kept o n kept)) in
    on-err _ h

pub returns-clause-ran : goal.returns-clause-ran
returns-clause-ran g c = λ o n kept.
    let h = c.in_ok-close.ensures.ran o (g.K.Sink.held c.finish.new.out) n (c.in_ok-last.ensures.kept o n kept) in
    subst (λ (s : SceneValue). HasRun s c.args.self.now.course.drift o (g.K.Sink.held c.finish.new.out) n (g.N.Sink.held c.close.new.note) c.in_ok-close.field-0) c.in_ok-last.ensures.scene
    (subst (λ (d : ℕ). HasRun c.finish.new.self.course.scene d o (g.K.Sink.held c.finish.new.out) n (g.N.Sink.held c.close.new.note) c.in_ok-close.field-0) c.in_ok-last.ensures.drift h)

pub returns-in_err-close-clause-noted : goal.returns-in_err-close-clause-noted
returns-in_err-close-clause-noted g c =
    let h : (o n : Option (List ℕ)) → IsKeptUp o (g.K.Sink.held c.args.out.now) n (g.N.Sink.held c.args.note.now) c.args.self.now → HasNoted c.args.self.now.course.scene c.args.self.now.course.drift n (g.N.Sink.held c.close.new.note) =
    λ o n kept. noted-same _ _ _ _ _ _ c.in_ok-last.ensures.scene c.in_ok-last.ensures.drift
    (c.in_err-close.ensures.noted o (g.K.Sink.held c.finish.new.out) n (c.in_ok-last.ensures.kept o n kept)) in
    on-err _ h
