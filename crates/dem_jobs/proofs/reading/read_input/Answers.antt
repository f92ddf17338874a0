use Rattle.std.proofs.Common.{arith}
use Rattle.std.proofs.lemmas.Result.{err_from_is_err_and}
use Rattle.dem_outside.specs.Change.{change}
use Rattle.dem_jobs.proofs.InputFacts.{input-long, input-whole, input-unread}
use Rattle.dem_jobs.proofs.reading.read_input.Goals as goal

pub returns-in_err-input-clause-read : goal.returns-in_err-input-clause-read
returns-in_err-input-clause-read g c =
    let p = err_from_is_err_and c.from_residual.result c.from_residual.ensures.1 in
    let source = change g.S.Source.left g.S.Source.faults c.args.source.now c.read_all.new.source in
    rw (p.1, p.2) (input-unread source c.in_err-input.field-0.0 c.in_err-input.ensures.read)

pub returns-then-len-gt-MAX_INPUT-clause-read : goal.returns-then-len-gt-MAX_INPUT-clause-read
returns-then-len-gt-MAX_INPUT-clause-read g c =
    let read = c.in_ok-input.ensures.read in
    let source = change g.S.Source.left g.S.Source.faults c.args.source.now c.read_all.new.source in
    input-long source c.in_ok-input.input.items read.0 read.1 read.3 (omega arith)

pub returns-clause-read : goal.returns-clause-read
returns-clause-read g c =
    let read = c.in_ok-input.ensures.read in
    let source = change g.S.Source.left g.S.Source.faults c.args.source.now c.read_all.new.source in
    input-whole source c.in_ok-input.input.items read.0 read.1 read.3 (omega arith)
