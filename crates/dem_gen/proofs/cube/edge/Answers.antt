use Rattle.dem_gen.proofs.EdgeFacts.{Searched-more, Searched-done}
use Rattle.dem_gen.proofs.cube.edge.Goals as goal

pub loop-edge-preserved : goal.loop-edge-preserved
loop-edge-preserved c = Searched-more c.args.count c.loop-edge.edge c.requires.many c.loop-edge-test.true c.loop-edge.invariant

pub returns-clause-value : goal.returns-clause-value
returns-clause-value c = Searched-done c.args.count c.loop-edge.edge c.loop-edge-test.false c.loop-edge.invariant
