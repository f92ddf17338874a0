use Rattle.std.proofs.Common.{◌++◌, ◌≡◌, Some, None, [], append-nil, sym, ap, ◌∙◌, subst}
use Rattle.std.specs.Io.KnownBytes.{Appends}
use Rattle.std.proofs.lemmas.Result.{err_from_is_err_and}
use Rattle.dem_model.specs.Frames.{last_text}
use Rattle.dem_outside.specs.Known.{PutAppends}
use Rattle.dem_outside.proofs.Prefixes.{AppendsPrefix-longer, PutAppends-after}
use Rattle.dem_model.specs.Output.{due_text}
use Rattle.dem_model.specs.World.{done_at, reached_text, end_text}
use Rattle.dem_core.proofs.CourseFacts.{end_text-told}
use Rattle.dem_core.proofs.frame.write_reached.Goals as goal

pub returns-in_err-write_due-clause-written : goal.returns-in_err-write_due-clause-written
unfolding reached_text
returns-in_err-write_due-clause-written g c =
    let p = err_from_is_err_and c.from_residual.result c.from_residual.ensures.1 in rw (p.1)
    (AppendsPrefix-longer _ _ (due_text c.args.run.now.scene c.args.run.now.state) _ c.in_err-write_due.ensures.written)

pub returns-in-Some-clause-written : goal.returns-in-Some-clause-written
unfolding reached_text end_text
returns-in-Some-clause-written g c =
    let row : end_text (done_at c.args.run.now.scene c.args.run.now.state.step) ≡ last_text c.in-Some.last =
    end_text-told _ _ _ _ _ (Some c.in-Some.last) (c.scene.ensures.value ∙ c.shapes.ensures) c.now.ensures.value c.done_at.ensures c.in-Some.is in
    PutAppends-after _ _ _ c.write_end.result (due_text c.args.run.now.scene c.args.run.now.state) (end_text (done_at c.args.run.now.scene c.args.run.now.state.step))
    c.in_ok-write_due.ensures.written
    (subst (PutAppends (g.K.Sink.held c.write_due.new.out) (g.K.Sink.held c.write_end.new.out) c.write_end.result) (sym row) c.write_end.ensures.written)

pub returns-in-None-clause-written : goal.returns-in-None-clause-written
unfolding reached_text end_text
returns-in-None-clause-written g c =
    let row : end_text (done_at c.args.run.now.scene c.args.run.now.state.step) ≡ [] =
    end_text-told _ _ _ _ _ None (c.scene.ensures.value ∙ c.shapes.ensures) c.now.ensures.value c.done_at.ensures c.in-None.is in
    subst (Appends (g.K.Sink.held c.args.out.now) (g.K.Sink.held c.write_due.new.out))
    (sym (append-nil (due_text c.args.run.now.scene c.args.run.now.state)) ∙ ap (λ l. due_text c.args.run.now.scene c.args.run.now.state ++ l) (sym row))
    c.in_ok-write_due.ensures.written
