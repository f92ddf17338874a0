use Rattle.std.proofs.Common.{◌∙◌, Some, ap, arith}
use Rattle.std.proofs.lemmas.Option.{slice_get-get_or}
use Rattle.dem_check.proofs.LineFacts.{line-of-take, plain-next}
use Rattle.dem_check.proofs.bytes.line_len.Goals as goal

pub loop-n-preserved : goal.loop-n-preserved
loop-n-preserved c = (omega (arith, c.loop-n-test.true), plain-next c.args.bytes.now c.loop-n.n _ c.loop-n-test.true c.if-bytes-n-ne10.true c.loop-n.invariant.1)

pub returns-else-bytes-n-ne10-clause-line : goal.returns-else-bytes-n-ne10-clause-line
returns-else-bytes-n-ne10-clause-line c =
    line-of-take c.args.bytes.now c.loop-n.n c.loop-n.invariant.1 (λ lt. slice_get-get_or c.args.bytes.now c.loop-n.n _ lt ∙ ap Some c.if-bytes-n-ne10.false) c.loop-n.invariant.0

pub returns-else-bytes-n-ne10-clause-newline : goal.returns-else-bytes-n-ne10-clause-newline
returns-else-bytes-n-ne10-clause-newline c = λ lt. slice_get-get_or c.args.bytes.now c.loop-n.n _ lt ∙ ap Some c.if-bytes-n-ne10.false

pub returns-after-loop-n-clause-line : goal.returns-after-loop-n-clause-line
returns-after-loop-n-clause-line c = line-of-take c.args.bytes.now c.loop-n.n c.loop-n.invariant.1 (λ lt. absurd (omega (arith, lt, c.loop-n-test.false))) c.loop-n.invariant.0
