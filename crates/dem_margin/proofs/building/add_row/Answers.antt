use Rattle.std.proofs.Common.{◌+◌, ◌++◌, ◌<◌, ◌≤◌, ◌^◌, length, refl, sym, ap, ◌∙◌, arith, subst, List}
use Rattle.dem_model.specs.Pairs.{sphere_count, limit_of, pair_of}
use Rattle.dem_model.specs.declared.state.Pair.{Pair}
use Rattle.dem_margin.specs.NearList.{pair_if_near}
use Rattle.dem_margin.proofs.FoundFacts.{found-row, found-place, found-rows, found-room}
use Rattle.dem_margin.proofs.building.add_row.Goals as goal

pub overflow_add-limit : goal.overflow_add-limit
unfolding sphere_count
overflow_add-limit c = omega (arith, c.scene-scene.ensures.sound.sphere_count, c.scene-scene.ensures.sound.wall_count)

pub loop-b-init : goal.loop-b-init
loop-b-init c = (c.requires.before ∙ found-row c.args.shapes.now c.args.drift c.args.centers.now c.args.a, refl)

pub add_near-requires-clause-second : goal.add_near-requires-clause-second
unfolding limit_of
add_near-requires-clause-second c = omega arith

pub add_near-requires-clause-room : goal.add_near-requires-clause-room
unfolding limit_of
add_near-requires-clause-room c =
    subst (λ (ps : List Pair). length ps + 1 < 2 ^ 32) (sym c.loop-b.invariant.0)
    (found-room c.args.shapes.now c.args.drift c.args.centers.now c.args.a c.loop-b.b c.scene-scene.ensures.sound c.requires.sphere (omega arith))

pub loop-b-preserved : goal.loop-b-preserved
loop-b-preserved c = (
  c.in_ok-add_near.ensures.found
      ∙ ap (λ ps. ps ++ pair_if_near c.args.shapes.now c.args.drift c.args.centers.now (pair_of c.args.a c.loop-b.b)) c.loop-b.invariant.0
      ∙ found-place c.args.shapes.now c.args.drift c.args.centers.now c.args.a c.loop-b.b,
  c.add_near.ensures.from ∙ c.loop-b.invariant.1,
)

pub returns-clause-found : goal.returns-clause-found
unfolding limit_of
returns-clause-found c =
    let room : c.args.a + 1 ≤ c.spheres.result + c.walls.result = omega (arith, c.requires.sphere, c.spheres.ensures) in
    c.loop-b.invariant.0
    ∙ found-rows c.args.shapes.now c.args.drift c.args.centers.now c.args.a c.loop-b.b (omega (arith, c.loop-b.auto.b-end room, c.spheres.ensures, c.walls.ensures))
