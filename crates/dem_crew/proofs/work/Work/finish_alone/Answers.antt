use Rattle.std.proofs.Common.{◌≡◌, ℕ, List, Option, ◌∙◌, subst}
use Rattle.dem_outside.specs.Known.{AppendsPrefix}
use Rattle.dem_model.specs.Output.{output_of}
use Rattle.dem_model.specs.SceneValue.{SceneValue}
use Rattle.dem_crew.specs.Working.{IsKeptUp}
use Rattle.dem_crew.proofs.WorkFacts.{on-err, prefix-kept}
use Rattle.dem_crew.proofs.NotedFacts.{noted-same}
use Rattle.dem_crew.specs.Running.{HasNoted}
use Rattle.dem_crew.proofs.work.Work.finish_alone.Goals as goal

pub returns-in_err-step-clause-so_far : goal.returns-in_err-step-clause-so_far
returns-in_err-step-clause-so_far g c =
    let f : (o n : Option (List ℕ)) → IsKeptUp o (g.K.Sink.held c.args.out.now) n (g.N.Sink.held c.args.note.now) c.args.self.now → AppendsPrefix o (g.K.Sink.held c.step.new.out) (output_of c.args.self.now.course.scene) =
    λ o n k. subst (λ (s : SceneValue). AppendsPrefix o (g.K.Sink.held c.step.new.out) (output_of s)) c.loop.invariant.2 (c.in_err-step.ensures.so_far o n _ (c.loop.invariant.8 o n k)) in
    on-err _ f

pub returns-in_err-renew-clause-so_far : goal.returns-in_err-renew-clause-so_far
returns-in_err-renew-clause-so_far g c =
    let scene : c.step.new.self.course.scene ≡ c.args.self.now.course.scene = c.step.ensures.scene ∙ c.loop.invariant.2 in
    let f : (o n : Option (List ℕ)) → IsKeptUp o (g.K.Sink.held c.args.out.now) n (g.N.Sink.held c.args.note.now) c.args.self.now → AppendsPrefix o (g.K.Sink.held c.step.new.out) (output_of c.args.self.now.course.scene) =
    λ o n k.
    subst (λ (s : SceneValue). AppendsPrefix o (g.K.Sink.held c.step.new.out) (output_of s)) scene
    (prefix-kept o _ n _ c.step.new.self c.renew.ensures.course (c.in_ok-step.ensures.kept o n _ (c.loop.invariant.8 o n k))) in
    on-err _ f

pub returns-in_err-step-clause-noted : goal.returns-in_err-step-clause-noted
returns-in_err-step-clause-noted g c =
    let f : (o n : Option (List ℕ)) → IsKeptUp o (g.K.Sink.held c.args.out.now) n (g.N.Sink.held c.args.note.now) c.args.self.now → HasNoted c.args.self.now.course.scene c.args.self.now.course.drift n (g.N.Sink.held c.loop.note) =
    λ o n k. noted-same _ _ _ _ n _ c.loop.invariant.2 c.loop.invariant.3 (c.in_err-step.ensures.noted o n _ (c.loop.invariant.8 o n k)) in
    on-err _ f

pub returns-in_err-renew-clause-noted : goal.returns-in_err-renew-clause-noted
returns-in_err-renew-clause-noted g c =
    let scene : c.step.new.self.course.scene ≡ c.args.self.now.course.scene = c.step.ensures.scene ∙ c.loop.invariant.2 in
    let drift : c.step.new.self.course.drift ≡ c.args.self.now.course.drift = c.step.ensures.drift ∙ c.loop.invariant.3 in
    let f : (o n : Option (List ℕ)) → IsKeptUp o (g.K.Sink.held c.args.out.now) n (g.N.Sink.held c.args.note.now) c.args.self.now → HasNoted c.args.self.now.course.scene c.args.self.now.course.drift n (g.N.Sink.held c.renew.new.note) =
    λ o n k. noted-same _ _ _ _ n _ scene drift (c.in_err-renew.ensures.noted o _ n (c.in_ok-step.ensures.kept o n _ (c.loop.invariant.8 o n k))) in
    on-err _ f
