use Rattle.std.proofs.Common.{arith}
use Rattle.dem_model.proofs.PairFacts.{pairs_below-none}
use Rattle.dem_plain.proofs.HoldsFacts.{Holds-whole}
use Rattle.dem_plain.proofs.met.all_met.Goals as goal

pub loop-a-init : goal.loop-a-init
loop-a-init c = rw (pairs_below-none c.args.shapes.now) (c.in_ok-met.ensures c.args.bodies.now c.args.spheres.now.centers c.args.held.now)

pub returns : goal.returns
returns c = Holds-whole c.args.shapes.now c.args.bodies.now c.args.spheres.now.centers c.args.held.now c.loop-a.a c.loop-a.met (omega arith) c.loop-a.invariant
