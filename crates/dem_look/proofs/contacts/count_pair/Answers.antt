use Rattle.std.proofs.Common.{arith}
use Rattle.dem_model.specs.Step.{first_clump}
use Rattle.dem_look.proofs.CountFacts.{one-clump, two-counts}
use Rattle.dem_look.proofs.contacts.count_pair.Goals as goal

pub returns-then-pair-spheres : goal.returns-then-pair-spheres
unfolding first_clump
returns-then-pair-spheres c =
    two-counts c.args.shapes.now c.args.entry.now c.clump_of.result c.clump_of-then-pair-spheres.result c.args.counts.now c.add_one.new.counts c.add_one-then-pair-spheres.new.counts
    c.requires.pair c.clump_of.ensures.value c.clump_of-then-pair-spheres.ensures.value (omega (arith, c.if-pair-spheres.true, c.spheres.ensures)) c.add_one.ensures c.add_one-then-pair-spheres.ensures

pub returns-else-pair-spheres : goal.returns-else-pair-spheres
unfolding first_clump
returns-else-pair-spheres c =
    one-clump c.args.shapes.now c.args.entry.now c.clump_of.result c.args.counts.now c.add_one.new.counts
    c.clump_of.ensures.value (omega (arith, c.if-pair-spheres.false, c.spheres.ensures)) c.add_one.ensures
