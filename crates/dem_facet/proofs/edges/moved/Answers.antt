use Rattle.std.proofs.Common.{◌*◌, ◌/◌, ◌^◌, ◌≤◌, arith, unsigned_abs}
use Rattle.std.proofs.lemmas.Int.{to_z-of_z}
use Rattle.dem_facet.proofs.EdgeFacts.{moved_le}
use Rattle.dem_facet.proofs.edges.moved.Goals as goal

pub returns-clause-size : goal.returns-clause-size
returns-clause-size c =
    let part : unsigned_abs c.args.part * unsigned_abs c.args.edge / unsigned_abs c.args.whole ≤ 2 ^ 26 =
    moved_le c.args.edge c.args.part c.args.whole (2 ^ 26) c.requires.edge_small c.requires.some c.requires.low c.requires.high in
    grind (arith, to_z-of_z)
