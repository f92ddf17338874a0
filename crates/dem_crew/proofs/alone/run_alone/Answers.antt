use Rattle.std.proofs.Common.{ℕ, List, Option, subst}
use Rattle.dem_outside.specs.Known.{AppendsPrefix}
use Rattle.dem_model.specs.Output.{output_of}
use Rattle.dem_model.specs.SceneValue.{SceneValue}
use Rattle.dem_crew.specs.Running.{HasNoted}
use Rattle.dem_crew.specs.Working.{IsKeptUp}
use Rattle.dem_crew.proofs.WorkFacts.{on-err-then}
use Rattle.dem_crew.proofs.NotedFacts.{noted-same}
use Rattle.dem_crew.proofs.GoingOnFacts.{noted-none}
use Rattle.dem_crew.proofs.alone.run_alone.Goals as goal

pub returns-in-Ok-clause-so_far : goal.returns-in-Ok-clause-so_far
returns-in-Ok-clause-so_far g c =
    let so_far : ((o n : Option (List ℕ)) → IsKeptUp o (g.K.Sink.held c.new.new.out) n (g.N.Sink.held c.args.note.now) c.in-Ok.work → AppendsPrefix o (g.K.Sink.held c.run_alone-answer.new.out) (output_of c.in-Ok.work.course.scene))
    → AppendsPrefix (g.K.Sink.held c.args.out.now) (g.K.Sink.held c.run_alone-answer.new.out) (output_of c.args.shapes.now) =
    λ all. subst (λ (s : SceneValue). AppendsPrefix (g.K.Sink.held c.args.out.now) (g.K.Sink.held c.run_alone-answer.new.out) (output_of s)) c.in-Ok.ensures.scene
    (all (g.K.Sink.held c.args.out.now) (g.N.Sink.held c.args.note.now) (c.in-Ok.ensures.kept (g.N.Sink.held c.args.note.now))) in
    on-err-then _ so_far c.run_alone-answer.ensures.so_far

pub returns-in-Ok-clause-noted : goal.returns-in-Ok-clause-noted
returns-in-Ok-clause-noted g c =
    let noted : ((o n : Option (List ℕ)) → IsKeptUp o (g.K.Sink.held c.new.new.out) n (g.N.Sink.held c.args.note.now) c.in-Ok.work → HasNoted c.in-Ok.work.course.scene c.in-Ok.work.course.drift n (g.N.Sink.held c.run_alone-answer.new.note))
    → HasNoted c.args.shapes.now c.args.grid.now.drift (g.N.Sink.held c.args.note.now) (g.N.Sink.held c.run_alone-answer.new.note) =
    λ all. noted-same _ _ _ _ _ _ c.in-Ok.ensures.scene c.in-Ok.ensures.drift
    (all (g.K.Sink.held c.args.out.now) (g.N.Sink.held c.args.note.now) (c.in-Ok.ensures.kept (g.N.Sink.held c.args.note.now))) in
    on-err-then _ noted c.run_alone-answer.ensures.noted

pub returns-clause-noted : goal.returns-clause-noted
returns-clause-noted g c = noted-none c.args.shapes.now c.args.grid.now.drift (g.N.Sink.held c.args.note.now)
