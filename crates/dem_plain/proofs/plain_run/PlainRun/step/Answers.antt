use Rattle.std.proofs.Common.{◌<◌, List, sym, subst}
use Rattle.dem_model.specs.declared.state.Body.{Body}
use Rattle.dem_force.specs.Sides.{AreSides}
use Rattle.dem_plain.specs.Run.{Run}
use Rattle.dem_plain.proofs.RunFacts.{filled_places, run_kept, run_next}
use Rattle.dem_plain.proofs.plain_run.PlainRun.step.Goals as goal

pub stepped-requires-clause-sides : goal.stepped-requires-clause-sides
stepped-requires-clause-sides c =
    subst (λ (bs : List Body). AreSides c.self.inside.shapes bs c.fill.new.self.sides) c.as_slice.ensures c.fill.ensures.sides

pub invariant_of-self : goal.invariant_of-self
invariant_of-self c =
    run_next c.self.inside.shapes c.self.inside.spheres c.fill.new.self c.self.inside.state c.in-Ok.next c.self.inside.from_first c.self.invariant
    (filled_places c.self.inside.shapes c.as_slice.result.now c.fill.new.self c.fill.ensures.matrices c.fill.ensures.centers c.fill.ensures.sides)
    (subst (λ (r : Run). r.state.step < r.scene.steps) (sym c.self.view_is) c.requires)
    c.in-Ok.ensures

pub invariant_of-self-in-Err : goal.invariant_of-self-in-Err
invariant_of-self-in-Err c =
    run_kept c.self.inside.shapes c.self.inside.spheres c.fill.new.self c.self.inside.state c.self.inside.from_first c.self.invariant
    (filled_places c.self.inside.shapes c.as_slice.result.now c.fill.new.self c.fill.ensures.matrices c.fill.ensures.centers c.fill.ensures.sides)
