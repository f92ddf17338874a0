use Rattle.std.proofs.Common.{◌≡◌, Some, sym, ◌∙◌, rules, arith}
use Rattle.std.proofs.lemmas.Grind.{common_steps}
use Rattle.dem_outside.specs.MemSinkValue.{failure_of}
use Rattle.dem_outside.proofs.Prefixes.{AppendsPrefix-take}
use Rattle.dem_outside.proofs.PutFacts.{is_told}
use Rattle.dem_outside.proofs.mem_sink.MemSinkSink.put.Goals as goal

pub returns-in-Some-clause-appended : goal.returns-in-Some-clause-appended
returns-in-Some-clause-appended c = AppendsPrefix-take _ _ c.args.piece.now c.min-count.result (grind (arith, common_steps))

pub returns-in-Some-clause-taken : goal.returns-in-Some-clause-taken
returns-in-Some-clause-taken c =
    let told : failure_of c.args.self.now ≡ Some c.in-Some.failure = grind (arith, common_steps) in
    (λ ok. cc, λ t. absurd (is_told _ _ told t.0))
