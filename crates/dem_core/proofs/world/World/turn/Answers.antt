use Rattle.std.proofs.Common.{◌≡◌, true, sym, ap, ◌∙◌, subst, arith}
use Rattle.std.specs.Io.KnownBytes.{Appends}
use Rattle.std.proofs.KnownBytes.{Appends-nil}
use Rattle.dem_model.specs.World.{enabled, turn_text, turn_rows, rows_text}
use Rattle.dem_model.specs.declared.state.Turn.TheVariants.{Step}
use Rattle.dem_core.specs.Worlds.{most_of_turn}
use Rattle.dem_core.proofs.WorldFacts.{text-off}
use Rattle.dem_core.proofs.TurningFacts.{gains-none, rows-quiet, post-quiet, take-quiet, deliver-quiet, collect-quiet, step-quiet, most-on}
use Rattle.dem_core.proofs.world.World.turn.Goals as goal

pub returns-then-not-may-clause-written : goal.returns-then-not-may-clause-written
returns-then-not-may-clause-written g c = subst (Appends (g.K.Sink.held c.args.out.now) (g.K.Sink.held c.args.out.now)) (sym (text-off c.args.self.now.scene c.args.self.now.drift c.args.self.now.world c.args.t (sym c.may.ensures ∙ c.if-not-may.true))) (Appends-nil (g.K.Sink.held c.args.out.now))

pub returns-then-not-may-clause-noted : goal.returns-then-not-may-clause-noted
returns-then-not-may-clause-noted g c = subst (Appends (g.N.Sink.held c.args.note.now) (g.N.Sink.held c.args.note.now)) (sym (rows-quiet c.args.self.now.scene c.args.self.now.drift c.args.self.now.world c.args.t (sym c.may.ensures ∙ c.if-not-may.true))) (Appends-nil (g.N.Sink.held c.args.note.now))

pub returns-in-Post-clause-written : goal.returns-in-Post-clause-written
returns-in-Post-clause-written g c = subst (Appends (g.K.Sink.held c.args.out.now) (g.K.Sink.held c.args.out.now)) (sym (ap (λ t. turn_text c.args.self.now.scene c.args.self.now.drift c.args.self.now.world t) c.in-Post.is ∙ (post-quiet c.args.self.now.scene c.args.self.now.drift c.args.self.now.world (subst (λ t. enabled c.args.self.now.scene c.args.self.now.drift c.args.self.now.world t ≡ true) c.in-Post.is (sym c.may.ensures ∙ c.if-not-may.false))).0)) (Appends-nil (g.K.Sink.held c.args.out.now))

pub returns-in-Post-clause-noted : goal.returns-in-Post-clause-noted
returns-in-Post-clause-noted g c = subst (Appends (g.N.Sink.held c.args.note.now) (g.N.Sink.held c.args.note.now)) (sym (ap (λ t. rows_text (turn_rows c.args.self.now.scene c.args.self.now.drift c.args.self.now.world t)) c.in-Post.is ∙ (post-quiet c.args.self.now.scene c.args.self.now.drift c.args.self.now.world (subst (λ t. enabled c.args.self.now.scene c.args.self.now.drift c.args.self.now.world t ≡ true) c.in-Post.is (sym c.may.ensures ∙ c.if-not-may.false))).1)) (Appends-nil (g.N.Sink.held c.args.note.now))

pub returns-in-Take-clause-written : goal.returns-in-Take-clause-written
returns-in-Take-clause-written g c = subst (Appends (g.K.Sink.held c.args.out.now) (g.K.Sink.held c.args.out.now)) (sym (ap (λ t. turn_text c.args.self.now.scene c.args.self.now.drift c.args.self.now.world t) c.in-Take.is ∙ (take-quiet c.args.self.now.scene c.args.self.now.drift c.args.self.now.world (subst (λ t. enabled c.args.self.now.scene c.args.self.now.drift c.args.self.now.world t ≡ true) c.in-Take.is (sym c.may.ensures ∙ c.if-not-may.false))).0)) (Appends-nil (g.K.Sink.held c.args.out.now))

pub returns-in-Take-clause-noted : goal.returns-in-Take-clause-noted
returns-in-Take-clause-noted g c = subst (Appends (g.N.Sink.held c.args.note.now) (g.N.Sink.held c.args.note.now)) (sym (ap (λ t. rows_text (turn_rows c.args.self.now.scene c.args.self.now.drift c.args.self.now.world t)) c.in-Take.is ∙ (take-quiet c.args.self.now.scene c.args.self.now.drift c.args.self.now.world (subst (λ t. enabled c.args.self.now.scene c.args.self.now.drift c.args.self.now.world t ≡ true) c.in-Take.is (sym c.may.ensures ∙ c.if-not-may.false))).1)) (Appends-nil (g.N.Sink.held c.args.note.now))

pub returns-in-Deliver-clause-written : goal.returns-in-Deliver-clause-written
returns-in-Deliver-clause-written g c = gains-none _ _ c.deliver.result (ap (λ t. turn_text c.args.self.now.scene c.args.self.now.drift c.args.self.now.world t) c.in-Deliver.is ∙ (deliver-quiet c.args.self.now.scene c.args.self.now.drift c.args.self.now.world (subst (λ t. enabled c.args.self.now.scene c.args.self.now.drift c.args.self.now.world t ≡ true) c.in-Deliver.is (sym c.may.ensures ∙ c.if-not-may.false))).0)

pub returns-in-Deliver-clause-noted : goal.returns-in-Deliver-clause-noted
returns-in-Deliver-clause-noted g c = gains-none _ _ c.deliver.result (ap (λ t. rows_text (turn_rows c.args.self.now.scene c.args.self.now.drift c.args.self.now.world t)) c.in-Deliver.is ∙ (deliver-quiet c.args.self.now.scene c.args.self.now.drift c.args.self.now.world (subst (λ t. enabled c.args.self.now.scene c.args.self.now.drift c.args.self.now.world t ≡ true) c.in-Deliver.is (sym c.may.ensures ∙ c.if-not-may.false))).1)

pub returns-in-Collect-clause-written : goal.returns-in-Collect-clause-written
returns-in-Collect-clause-written g c = gains-none _ _ c.collect.result (ap (λ t. turn_text c.args.self.now.scene c.args.self.now.drift c.args.self.now.world t) c.in-Collect.is ∙ (collect-quiet c.args.self.now.scene c.args.self.now.drift c.args.self.now.world (subst (λ t. enabled c.args.self.now.scene c.args.self.now.drift c.args.self.now.world t ≡ true) c.in-Collect.is (sym c.may.ensures ∙ c.if-not-may.false))))

pub returns-in-Step-clause-noted : goal.returns-in-Step-clause-noted
returns-in-Step-clause-noted g c = gains-none _ _ c.step.result (ap (λ t. rows_text (turn_rows c.args.self.now.scene c.args.self.now.drift c.args.self.now.world t)) c.in-Step.is ∙ (step-quiet c.args.self.now.scene c.args.self.now.drift c.args.self.now.world (subst (λ t. enabled c.args.self.now.scene c.args.self.now.drift c.args.self.now.world t ≡ true) c.in-Step.is (sym c.may.ensures ∙ c.if-not-may.false))))

pub returns-in-Step-clause-counted : goal.returns-in-Step-clause-counted
returns-in-Step-clause-counted g c = omega (arith, c.step.ensures.counted, ap (most_of_turn c.args.self.now) c.in-Step.is, most-on c.args.self.now Step (subst (λ t. enabled c.args.self.now.scene c.args.self.now.drift c.args.self.now.world t ≡ true) c.in-Step.is (sym c.may.ensures ∙ c.if-not-may.false)))
