use Rattle.std.proofs.Common.{sym, ◌∙◌}
use Rattle.dem_plain.proofs.RunFacts.{held_found, held_passed, held_none}
use Rattle.dem_plain.proofs.meeting.displacement.Goals as goal

pub returns-then-is_same-clause-value : goal.returns-then-is_same-clause-value
returns-then-is_same-clause-value c =
    held_found c.args.held.now c.loop-entry.entry-index c.args.pair _ c.loop-entry-test.true (sym c.is_same.ensures ∙ c.if-is_same.true) c.loop-entry.invariant

pub loop-entry-preserved : goal.loop-entry-preserved
loop-entry-preserved c =
    held_passed c.args.held.now c.loop-entry.entry-index c.args.pair _ c.loop-entry-test.true (sym c.is_same.ensures ∙ c.if-is_same.false) c.loop-entry.invariant

pub returns-clause-value : goal.returns-clause-value
returns-clause-value c = held_none c.args.held.now c.loop-entry.entry-index c.args.pair c.loop-entry-test.false c.loop-entry.invariant
