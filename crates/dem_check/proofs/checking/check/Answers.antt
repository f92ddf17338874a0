use Rattle.std.proofs.Common.{◌∙◌, ◌++◌, Err, Some, sym, ap, subst}
use Rattle.dem_model.specs.Output.{output_of}
use Rattle.dem_output.specs.Running.{WritesRun}
use Rattle.dem_check.specs.Comparisons.{Comparison, marked}
use Rattle.dem_check.proofs.ComparisonFacts.{bytes-from, finished, stopped}
use Rattle.dem_check.proofs.checking.check.Goals as goal

pub returns-in-Ok : goal.returns-in-Ok
returns-in-Ok c =
    finished c.args.text.now (output_of c.args.scene.now) c.write_run-run.new.out c.verdict.result (bytes-from c.args.text.now (λ i. (c.type_inv.text i).fits))
    c.is_short-short.ensures.bytes c.verdict.ensures
    (c.in-Ok.ensures.1 ∙ ap (λ (v : Comparison). marked v ++ output_of c.args.scene.now) c.new-out.ensures)

pub returns-in-WriteFault : goal.returns-in-WriteFault
returns-in-WriteFault c =
    let run = subst (λ fault. WritesRun c.args.scene.now (Some (marked c.new-out.result)) (Some (marked c.write_run-run.new.out)) c.new-out.result.faults c.write_run-run.new.out.faults (Err fault))
    c.in-WriteFault.is c.in-Err.ensures in
    stopped c.args.text.now (output_of c.args.scene.now) c.write_run-run.new.out c.verdict-in-WriteFault.result (bytes-from c.args.text.now (λ i. (c.type_inv.text i).fits))
    c.is_short-short.ensures.bytes c.verdict-in-WriteFault.ensures c.new-out.result.faults (ap (λ (v : Comparison). v.faults) c.new-out.ensures) run.1
    c.is_short-short.ensures.stops (sym c.is_short-short.ensures.value ∙ c.if-not-short.true) run.0.0 run.0.1 run.0.2
    (run.0.3 ∙ ap (λ (v : Comparison). marked v ++ run.0.0) c.new-out.ensures)
