use Rattle.std.proofs.Common.{ap, ◌∙◌}
use Rattle.dem_model.specs.Centers.{centers_of}
use Rattle.dem_model.specs.Near.{near_of}
use Rattle.dem_list.specs.Ascending.{Pairs}
use Rattle.dem_margin.proofs.OrderFacts.{settled_is, near_of-ascend}
use Rattle.dem_margin.proofs.building.build_all.Goals as goal

pub returns-in-Ok-clause-near : goal.returns-in-Ok-clause-near
returns-in-Ok-clause-near c = record {
  pairs = settled_is _ c.settle.result.pairs (near_of c.args.shapes.now c.args.drift (centers_of c.args.shapes.now c.args.snap.now.bodies))
      c.settle.ensures.ascending c.settle.ensures.added c.in-Ok.ensures.found
      (near_of-ascend c.args.shapes.now c.args.drift (centers_of c.args.shapes.now c.args.snap.now.bodies));
  from = c.settle.ensures.from ∙ c.add_all.ensures.from ∙ ap (λ (r : Pairs). r.from) c.raw-raw.ensures;
}
