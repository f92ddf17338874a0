use Rattle.std.proofs.Common.{◌≡◌, ℕ, arith, ap, ◌∙◌}
use Rattle.dem_model.specs.Near.{reach_of}
use Rattle.dem_bins.proofs.BlockFacts.{reach_of-bins}
use Rattle.dem_bins.proofs.blocks.reach_within.Goals as goal

pub returns-clause-size : goal.returns-clause-size
returns-clause-size c =
    let e : c.reach.result ≡ reach_of c.args.shapes.now c.args.grid.now.drift c.args.i = c.reach.ensures.value ∙ ap (λ (n : ℕ). reach_of c.args.shapes.now n c.args.i) c.drift.ensures in
    omega (arith, e, reach_of-bins c.args.shapes.now c.args.grid.now c.args.i c.requires.grid c.requires.sphere)
