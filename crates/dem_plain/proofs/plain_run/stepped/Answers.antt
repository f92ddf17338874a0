use Rattle.std.proofs.Common.{sym, subst, List}
use Rattle.dem_model.specs.Motion.{AreInside}
use Rattle.dem_model.proofs.SoundFacts.{centers_of-inside}
use Rattle.dem_model.specs.declared.state.Body.{Body}
use Rattle.dem_force.specs.Loads.{AreLoads}
use Rattle.dem_force.specs.Sides.{AreSides}
use Rattle.dem_plain.proofs.HoldsFacts.{loads-all}
use Rattle.dem_plain.proofs.RunFacts.{next_made, next_stops}
use Rattle.dem_plain.proofs.plain_run.stepped.Goals as goal

pub all_met-requires-clause-centers : goal.all_met-requires-clause-centers
all_met-requires-clause-centers c =
    subst (AreInside c.args.shapes.now) (sym c.requires.centers) (centers_of-inside c.args.shapes.now c.args.state.now.bodies c.scene-scene.ensures.sound c.requires.sound)

pub all_met-requires-clause-sides : goal.all_met-requires-clause-sides
all_met-requires-clause-sides c =
    subst (λ (bs : List Body). AreSides c.args.shapes.now bs c.args.spheres.now.sides) (sym c.as_slice-bodies.ensures) c.requires.sides

pub advanced-requires-clause-loads : goal.advanced-requires-clause-loads
advanced-requires-clause-loads c =
    subst (AreLoads c.args.shapes.now) (sym c.as_slice-2.ensures.value)
    (loads-all c.args.shapes.now c.as_slice-bodies.result.now c.args.spheres.now.centers c.as_slice.result.now c.in_ok-met.met c.scene-scene.ensures.sound c.in_ok-met.ensures)

pub returns-in-Ok : goal.returns-in-Ok
returns-in-Ok c =
    next_made c.args.shapes.now c.args.state.now c.in_ok-met.met _ c.in-Ok.bodies _ _ c.args.spheres.now.centers
    c.as_slice-bodies.ensures c.as_slice.ensures c.as_slice-2.ensures.value c.requires.centers c.in_ok-met.ensures c.in-Ok.ensures

pub returns-in-Err : goal.returns-in-Err
returns-in-Err c =
    next_stops c.args.shapes.now c.args.state.now c.in_ok-met.met c.in-Err.stop _ _ _ c.args.spheres.now.centers
    c.as_slice-bodies.ensures c.as_slice.ensures c.as_slice-2.ensures.value c.requires.centers c.in_ok-met.ensures c.in-Err.ensures
