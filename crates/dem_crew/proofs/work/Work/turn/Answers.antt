use Rattle.std.proofs.Common.{◌≡◌, ℕ, List, Option, ap, ◌∙◌, subst}
use Rattle.dem_outside.specs.Known.{AppendsPrefix}
use Rattle.dem_model.specs.Output.{output_of}
use Rattle.dem_model.specs.SceneValue.{SceneValue}
use Rattle.dem_core.specs.Courses.{Running}
use Rattle.dem_crew.specs.Working.{IsKeptUp}
use Rattle.dem_crew.proofs.WorkFacts.{on-err, kept-same, prefix-kept}
use Rattle.dem_crew.proofs.NotedFacts.{noted-same}
use Rattle.dem_crew.specs.Running.{HasNoted}
use Rattle.dem_crew.proofs.work.Work.turn.Goals as goal

pub returns-in_err-has_collected-clause-so_far : goal.returns-in_err-has_collected-clause-so_far
returns-in_err-has_collected-clause-so_far g c =
    let f : (o n : Option (List ℕ)) → IsKeptUp o (g.K.Sink.held c.args.out.now) n (g.N.Sink.held c.args.note.now) c.args.self.now → AppendsPrefix o (g.K.Sink.held c.args.out.now) (output_of c.args.self.now.course.scene) =
    λ o n k. prefix-kept o _ n _ c.args.self.now c.now-course.ensures.course k in
    on-err _ f

pub returns-in_err-has_stepped-clause-so_far : goal.returns-in_err-has_stepped-clause-so_far
returns-in_err-has_stepped-clause-so_far g c =
    let scene : c.collect.new.self.course.scene ≡ c.args.self.now.course.scene = c.collect.ensures.scene ∙ ap (λ (run : Running). run.scene) c.post.ensures.course in
    let f : (o n : Option (List ℕ)) → IsKeptUp o (g.K.Sink.held c.args.out.now) n (g.N.Sink.held c.args.note.now) c.args.self.now → AppendsPrefix o (g.K.Sink.held c.step.new.out) (output_of c.args.self.now.course.scene) =
    λ o n k.
    let posted = kept-same o _ n _ c.args.self.now c.post.new.self c.post.ensures.course c.post.ensures.lists k in
    let collected = c.in_ok-has_collected.ensures.kept o _ n posted in
    subst (λ (s : SceneValue). AppendsPrefix o (g.K.Sink.held c.step.new.out) (output_of s)) scene (c.in_err-has_stepped.ensures.so_far o n _ collected) in
    on-err _ f

pub returns-then-has_collected-clause-at_work : goal.returns-then-has_collected-clause-at_work
returns-then-has_collected-clause-at_work g c = c.step.ensures.at_work _ _ c.in_ok-has_collected.ensures.at_work

pub returns-else-has_collected-clause-at_work : goal.returns-else-has_collected-clause-at_work
returns-else-has_collected-clause-at_work g c = c.step.ensures.at_work _ _ c.in_ok-has_collected.ensures.at_work

pub returns-in_err-has_collected-clause-noted : goal.returns-in_err-has_collected-clause-noted
returns-in_err-has_collected-clause-noted g c =
    let scene : c.post.new.self.course.scene ≡ c.args.self.now.course.scene = ap (λ (run : Running). run.scene) c.post.ensures.course in
    let drift : c.post.new.self.course.drift ≡ c.args.self.now.course.drift = ap (λ (run : Running). run.drift) c.post.ensures.course in
    let f : (o n : Option (List ℕ)) → IsKeptUp o (g.K.Sink.held c.args.out.now) n (g.N.Sink.held c.args.note.now) c.args.self.now → HasNoted c.args.self.now.course.scene c.args.self.now.course.drift n (g.N.Sink.held c.collect.new.note) =
    λ o n k.
    let posted = kept-same o _ n _ c.args.self.now c.post.new.self c.post.ensures.course c.post.ensures.lists k in
    noted-same _ _ _ _ n _ scene drift (c.in_err-has_collected.ensures.noted o _ n posted) in
    on-err _ f

pub returns-in_err-has_stepped-clause-noted : goal.returns-in_err-has_stepped-clause-noted
returns-in_err-has_stepped-clause-noted g c =
    let scene : c.collect.new.self.course.scene ≡ c.args.self.now.course.scene = c.collect.ensures.scene ∙ ap (λ (run : Running). run.scene) c.post.ensures.course in
    let drift : c.collect.new.self.course.drift ≡ c.args.self.now.course.drift = c.collect.ensures.drift ∙ ap (λ (run : Running). run.drift) c.post.ensures.course in
    let f : (o n : Option (List ℕ)) → IsKeptUp o (g.K.Sink.held c.args.out.now) n (g.N.Sink.held c.args.note.now) c.args.self.now → HasNoted c.args.self.now.course.scene c.args.self.now.course.drift n (g.N.Sink.held c.collect.new.note) =
    λ o n k.
    let posted = kept-same o _ n _ c.args.self.now c.post.new.self c.post.ensures.course c.post.ensures.lists k in
    let collected = c.in_ok-has_collected.ensures.kept o _ n posted in
    noted-same _ _ _ _ n _ scene drift (c.in_err-has_stepped.ensures.noted o n _ collected) in
    on-err _ f
