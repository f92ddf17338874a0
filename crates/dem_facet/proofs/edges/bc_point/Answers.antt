use Rattle.std.proofs.Common.{arith, pos, ◌+ℤ◌, ◌-ℤ◌, ◌≤ℤ◌, ◌<ℤ◌}
use Rattle.std.proofs.lemmas.Int.{to_z-of_z}
use Rattle.dem_facet.proofs.EdgeFacts.{bc_low, bc_high}
use Rattle.dem_facet.proofs.edges.bc_point.Goals as goal

pub edge_point-requires-clause-some : goal.edge_point-requires-clause-some
edge_point-requires-clause-some c =
    let some : pos 0 <ℤ ((c.args.p.d4 -ℤ c.args.p.d3) +ℤ (c.args.p.d5 -ℤ c.args.p.d6)) = c.requires.fit.third in
    grind (arith, to_z-of_z)

pub edge_point-requires-clause-low : goal.edge_point-requires-clause-low
edge_point-requires-clause-low c =
    let low : pos 0 ≤ℤ (c.args.p.d4 -ℤ c.args.p.d3) = bc_low c.args.p.d3 c.args.p.d4 c.args.p.d5 c.args.p.d6 c.requires.past in
    grind (arith, to_z-of_z)

pub edge_point-requires-clause-high : goal.edge_point-requires-clause-high
edge_point-requires-clause-high c =
    let high : (c.args.p.d4 -ℤ c.args.p.d3) ≤ℤ ((c.args.p.d4 -ℤ c.args.p.d3) +ℤ (c.args.p.d5 -ℤ c.args.p.d6)) = bc_high c.args.p.d3 c.args.p.d4 c.args.p.d5 c.args.p.d6 c.requires.past in
    grind (arith, to_z-of_z)
