use Rattle.std.proofs.Common.{◌∙◌, ap, length, arith}
use Rattle.std.proofs.lemmas.Result.{err_from_is_err_and}
use Rattle.dem_list.specs.Ascending.{Pairs}
use Rattle.dem_core.proofs.EntryFacts.{entries-more, entries-failed, entries-all}
use Rattle.dem_core.proofs.frame.write_held.Goals as goal

pub returns-in_err-write_entry-clause-written : goal.returns-in_err-write_entry-clause-written
returns-in_err-write_entry-clause-written g c =
    let p = err_from_is_err_and c.from_residual.result c.from_residual.ensures.1 in rw (p.1)
    (entries-failed _ _ _ c.args.contacts.now.list.pairs c.args.contacts.now.entries c.loop-i.i _ _ (rw c.list-in-loop-i.ensures.value at c.get.ensures) c.held.ensures c.loop-i.invariant.0 c.in_err-write_entry.ensures.written)

pub loop-i-preserved : goal.loop-i-preserved
loop-i-preserved g c = (
  entries-more _ _ _ c.args.contacts.now.list.pairs c.args.contacts.now.entries c.loop-i.i _ _ (rw c.list-in-loop-i.ensures.value at c.get.ensures) c.held.ensures c.loop-i.invariant.0 c.in_ok-write_entry.ensures.written,
  c.in_ok-write_entry.ensures.count ∙ c.loop-i.invariant.1,
)

pub returns-clause-written : goal.returns-clause-written
returns-clause-written g c =
    entries-all _ _ c.args.contacts.now.list.pairs c.args.contacts.now.entries c.loop-i.i (omega (arith, ap (λ (l : Pairs). length l.pairs) c.list.ensures.value, c.len-i-end.ensures.value)) c.loop-i.invariant.0
