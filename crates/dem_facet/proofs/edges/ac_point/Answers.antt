use Rattle.std.proofs.Common.{arith, pos, ◌-ℤ◌, ◌≤ℤ◌}
use Rattle.std.proofs.lemmas.Int.{to_z-of_z}
use Rattle.dem_facet.proofs.EdgeFacts.{ac_low, ac_high}
use Rattle.dem_facet.proofs.edges.ac_point.Goals as goal

pub edge_point-requires-clause-low : goal.edge_point-requires-clause-low
edge_point-requires-clause-low c =
    let low : pos 0 ≤ℤ c.args.p.d2 = ac_low c.args.p.d1 c.args.p.d2 c.args.p.d5 c.args.p.d6 c.requires.past in
    grind (arith, to_z-of_z)

pub edge_point-requires-clause-high : goal.edge_point-requires-clause-high
edge_point-requires-clause-high c =
    let high : c.args.p.d2 ≤ℤ (c.args.p.d2 -ℤ c.args.p.d6) = ac_high c.args.p.d1 c.args.p.d2 c.args.p.d5 c.args.p.d6 c.requires.past in
    grind (arith, to_z-of_z)
