use Rattle.std.proofs.Common.{ap, ◌∙◌}
use Rattle.dem_model.specs.Centers.{centers_of}
use Rattle.dem_model.specs.Near.{near_of}
use Rattle.dem_model.specs.declared.state.Pair.{Pair}
use Rattle.dem_list.specs.Ascending.{Pairs}
use Rattle.dem_margin.proofs.OrderFacts.{same_ascending, near_of-ascend}
use Rattle.dem_bins.proofs.grid.Grid.build.Goals as goal

pub returns-in-Ok-clause-near : goal.returns-in-Ok-clause-near
returns-in-Ok-clause-near g c = record {
  pairs = same_ascending c.settle.result.pairs (near_of c.args.shapes.now c.args.self.now.drift (centers_of c.args.shapes.now c.args.snap.now.bodies))
      c.settle.ensures.ascending (near_of-ascend c.args.shapes.now c.args.self.now.drift (centers_of c.args.shapes.now c.args.snap.now.bodies))
      (λ (p : Pair). (λ h. (c.in-Ok.ensures.found p).0 ((c.settle.ensures.added p).1 h), λ h. (c.settle.ensures.added p).0 ((c.in-Ok.ensures.found p).1 h)));
  from = c.settle.ensures.from ∙ c.add_all.ensures.from ∙ ap (λ (r : Pairs). r.from) c.raw-raw.ensures;
}
