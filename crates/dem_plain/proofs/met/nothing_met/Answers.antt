use Rattle.std.proofs.Common.{length, refl}
use Rattle.dem_plain.proofs.HoldsFacts.{Holds-nothing}
use Rattle.dem_plain.proofs.met.nothing_met.Goals as goal

pub returns : goal.returns
returns c = Holds-nothing c.args.shapes.now (length c.args.shapes.now.clumps) _ refl c.in_ok-no_loads.ensures c.new.ensures
