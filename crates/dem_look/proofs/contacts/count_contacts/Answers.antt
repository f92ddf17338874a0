use Rattle.std.proofs.Common.{◌∙◌, length, arith}
use Rattle.dem_look.proofs.CountFacts.{counts-none, counts-more, counts-few}
use Rattle.dem_look.proofs.contacts.count_contacts.Goals as goal

pub loop-entry-init : goal.loop-entry-init
loop-entry-init c = c.clear.ensures ∙ counts-none c.args.shapes.now c.args.held.now (length c.args.counts.now) c.requires.made

pub count_pair-requires-clause-room : goal.count_pair-requires-clause-room
count_pair-requires-clause-room c =
    counts-few c.args.shapes.now c.args.held.now c.loop-entry.entry-index c.loop-entry.counts (omega (arith, c.loop-entry-test.true, c.requires.few)) c.loop-entry.invariant

pub loop-entry-preserved : goal.loop-entry-preserved
loop-entry-preserved c =
    counts-more c.args.shapes.now c.args.held.now c.loop-entry.entry-index _ c.loop-entry.counts c.count_pair.new.counts c.loop-entry-test.true c.loop-entry.invariant c.count_pair.ensures
