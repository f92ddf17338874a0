use Rattle.std.proofs.Common.{refl, sym, ◌∙◌, arith}
use Rattle.dem_margin.proofs.FoundFacts.{found-none, found-whole}
use Rattle.dem_margin.proofs.building.add_rows.Goals as goal

pub loop-a-init : goal.loop-a-init
loop-a-init c = (c.requires.empty ∙ sym (found-none c.args.shapes.now c.args.drift c.args.centers.now), refl)

pub returns-clause-found : goal.returns-clause-found
returns-clause-found c =
    c.loop-a.invariant.0 ∙ found-whole c.args.shapes.now c.args.drift c.args.centers.now c.loop-a.a (omega arith)
