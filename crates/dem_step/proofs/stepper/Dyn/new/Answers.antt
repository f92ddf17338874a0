use Rattle.std.proofs.Common.{◌≡◌, length, true, false, refl, sym, ap, ◌∙◌, subst, arith}
use Rattle.std.proofs.lemmas.List.{length-replicate}
use Rattle.dem_model.specs.Plain.{first_state}
use Rattle.dem_model.specs.Step.{no_load}
use Rattle.dem_hist.specs.Carrying.{HeldByPlace}
use Rattle.dem_plain.proofs.RunFacts.{plain_first}
use Rattle.dem_step.specs.Inside.{IsStepper}
use Rattle.dem_step.proofs.StepFacts.{state_at-is}
use Rattle.dem_step.proofs.KeptFacts.{stepper-first, first-count}
use Rattle.dem_step.proofs.MarkFacts.{marks_none}
use Rattle.dem_step.proofs.PreparedFacts.{prepared_first}
use Rattle.dem_step.proofs.stepper.Dyn.new.Goals as goal

pub invariant_of-result : goal.invariant_of-result
invariant_of-result c = (
  subst (IsStepper c.args.shapes.now c.args.drift 0 false c.in_ok-new.field-0) (sym c.new-2.ensures)
      (stepper-first c.args.shapes.now c.args.drift c.in_ok-new.field-0 c.scene-scene.ensures.sound c.requires c.in_ok-new.ensures),
  record {
    load_each = ap length c.in_ok-no_loads.ensures ∙ length-replicate (length c.args.shapes.now.clumps) no_load;
    body_each = first-count c.args.shapes.now c.in_ok-new-3.field-0 c.in_ok-new-3.ensures;
    entry_each = omega (arith, ap (λ (h : HeldByPlace). length h.list.pairs) c.new-2.ensures);
  },
  prepared_first _ _ _ c.in_ok-new-2.ensures,
  marks_none c.args.shapes.now 0 _ c.new-2.result.list.pairs c.new-3.result c.new-3.ensures (omega (arith, ap (λ (h : HeldByPlace). length h.list.pairs) c.new-2.ensures)),
  λ (no : false ≡ true). cc,
)

pub returns : goal.returns
returns c = record {
  scene = refl;
  drift_is = refl;
  state = state_at-is c.args.shapes.now 0 (first_state c.args.shapes.now) (plain_first c.args.shapes.now);
  from = refl;
  list_from = ap (λ (h : HeldByPlace). h.list.from) c.new-2.ensures;
  pairs = ap (λ (h : HeldByPlace). h.list.pairs) c.new-2.ensures;
  entries = ap (λ (h : HeldByPlace). h.entries) c.new-2.ensures;
}
