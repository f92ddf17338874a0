use Rattle.std.proofs.Common.{refl, ap, ◌∙◌, length, arith}
use Rattle.dem_shape.proofs.FillFacts.{AreFilled-more, AreFilled-all}
use Rattle.dem_shape.proofs.centers.Centers.fill_by.Goals as goal

pub loop-s-init : goal.loop-s-init
loop-s-init c = record { size = ap length c.self.view_is ∙ c.requires.made; done = refl }

pub loop-s-preserved : goal.loop-s-preserved
loop-s-preserved c = AreFilled-more _ _ _ _ _ c.loop-s.invariant (omega arith) c.place_by.ensures

pub returns : goal.returns
returns c = AreFilled-all _ _ _ _ c.loop-s.invariant (omega arith)
