use Rattle.std.proofs.Common.{◌+◌, ◌≤◌, arith}
use Rattle.dem_model.specs.Pairs.{sphere_count, limit_of}
use Rattle.dem_plain.proofs.HoldsFacts.{Holds-row, Holds-place, Holds-rows, loads-visited}
use Rattle.dem_plain.proofs.met.meet_row.Goals as goal

pub overflow_add-limit : goal.overflow_add-limit
unfolding sphere_count
overflow_add-limit c = omega (arith, c.scene-scene.ensures.sound.sphere_count, c.scene-scene.ensures.sound.wall_count)

pub loop-b-init : goal.loop-b-init
loop-b-init c = Holds-row c.args.shapes.now c.args.bodies.now c.args.spheres.now.centers c.args.held.now c.args.a c.args.met.now c.requires.before

pub meet-requires-clause-second : goal.meet-requires-clause-second
unfolding limit_of
meet-requires-clause-second c = omega arith

pub meet-requires-clause-loads : goal.meet-requires-clause-loads
unfolding limit_of
meet-requires-clause-loads c =
    loads-visited c.args.shapes.now c.args.bodies.now c.args.spheres.now.centers c.args.held.now c.args.a c.loop-b.b c.loop-b.met
    c.scene-scene.ensures.sound c.requires.sphere (omega arith) c.loop-b.invariant

pub loop-b-preserved : goal.loop-b-preserved
loop-b-preserved c =
    Holds-place c.args.shapes.now c.args.bodies.now c.args.spheres.now.centers c.args.held.now c.args.a c.loop-b.b c.meet.new.met (c.in_ok-meet.ensures _ c.loop-b.invariant)

pub returns : goal.returns
unfolding limit_of
returns c =
    let room : c.args.a + 1 ≤ c.spheres.result + c.walls.result = omega (arith, c.requires.sphere, c.spheres.ensures) in
    Holds-rows c.args.shapes.now c.args.bodies.now c.args.spheres.now.centers c.args.held.now c.args.a c.loop-b.b c.loop-b.met
    (omega (arith, c.loop-b.auto.b-end room, c.spheres.ensures, c.walls.ensures)) c.loop-b.invariant
