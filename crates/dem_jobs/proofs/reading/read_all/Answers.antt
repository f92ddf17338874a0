use Rattle.std.proofs.Common.{◌++◌, ◌≤◌, ◌+◌, length, take, arith}
use Rattle.std.proofs.KnownBytes.{Consumes-trans}
use Rattle.std.proofs.lemmas.Grind.{common_steps}
use Rattle.dem_jobs.proofs.reading.read_all.Goals as goal

pub returns-in_err-extend_from_slice-clause-taken : goal.returns-in_err-extend_from_slice-clause-taken
returns-in_err-extend_from_slice-clause-taken g c =
    let piece = take c.in_ok-count.count c.read.new.buf in
    let few : length (c.loop-buf.bytes.items ++ piece) ≤ c.args.limit + 1 = grind (arith, common_steps) in
    (c.loop-buf.bytes.items ++ piece, Consumes-trans _ _ _ _ _ c.loop-buf.invariant.1 c.in_ok-count.ensures.taken.0, few)
