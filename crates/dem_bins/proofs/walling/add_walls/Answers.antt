use Rattle.std.proofs.Common.{ℕ, ◌≡◌, ◌+◌, ◌*◌, ◌-◌, ◌≤◌, ◌++◌, length, ◌∙◌, sym, ap, arith, refl}
use Rattle.std.specs.List.{flat_map, range_with_len}
use Rattle.std.proofs.lemmas.List.{append-nil}
use Rattle.std.proofs.lemmas.Nat.{mul-le}
use Rattle.dem_model.specs.Pairs.{sphere_count, limit_of}
use Rattle.dem_bins.specs.Walk.{wall_found, walls_found}
use Rattle.dem_bins.proofs.WalkFacts.{flat-step, flat-short-from, wall_found-short}
use Rattle.dem_bins.proofs.walling.add_walls.Goals as goal

pub loop-b-init : goal.loop-b-init
loop-b-init g c =
    let none : c.spheres-spheres.result - sphere_count c.args.shapes.now ≡ 0 = omega (arith, c.spheres-spheres.ensures) in (
      sym (ap (λ m. c.args.raw.now.pairs ++ flat_map (wall_found c.args.shapes.now c.args.drift c.args.centers.now) (range_with_len (sphere_count c.args.shapes.now) m)) none ∙ append-nil c.args.raw.now.pairs),
      refl,
      omega arith,
    )

pub add_wall-requires-clause-there : goal.add_wall-requires-clause-there
unfolding limit_of
add_wall-requires-clause-there g c = omega (arith, c.spheres-spheres.ensures, c.walls.ensures)

pub add_wall-requires-clause-room : goal.add_wall-requires-clause-room
add_wall-requires-clause-room g c =
    let more : sphere_count c.args.shapes.now * (c.loop-b.b - sphere_count c.args.shapes.now + 1) ≤ sphere_count c.args.shapes.now * length c.args.shapes.now.walls =
    mul-le (sphere_count c.args.shapes.now) (c.loop-b.b - sphere_count c.args.shapes.now + 1) (sphere_count c.args.shapes.now) (length c.args.shapes.now.walls) (omega arith) (omega (arith, c.spheres-spheres.ensures, c.walls.ensures)) in
    omega (
      arith,
      c.requires.room,
      more,
      flat-short-from (wall_found c.args.shapes.now c.args.drift c.args.centers.now) (sphere_count c.args.shapes.now) (c.loop-b.b - sphere_count c.args.shapes.now) c.args.raw.now.pairs c.loop-b.raw.pairs (sphere_count c.args.shapes.now)
          (λ i l. wall_found-short c.args.shapes.now c.args.drift c.args.centers.now i) c.loop-b.invariant.0,
    )

pub loop-b-preserved : goal.loop-b-preserved
loop-b-preserved g c =
    let one : c.loop-b.b + 1 - sphere_count c.args.shapes.now ≡ c.loop-b.b - sphere_count c.args.shapes.now + 1 = omega (arith, c.spheres-spheres.ensures) in (
      flat-step (wall_found c.args.shapes.now c.args.drift c.args.centers.now) (sphere_count c.args.shapes.now) c.loop-b.b c.args.raw.now.pairs c.loop-b.raw.pairs c.add_wall.new.raw.pairs (omega (arith, c.spheres-spheres.ensures)) c.loop-b.invariant.0 c.in_ok-add_wall.ensures.found,
      c.add_wall.ensures.from ∙ c.loop-b.invariant.1,
      omega (arith, ap (λ (m : ℕ). sphere_count c.args.shapes.now * m) one, c.add_wall.ensures.counted, c.loop-b.invariant.2),
    )

pub returns-clause-found : goal.returns-clause-found
unfolding walls_found
returns-clause-found g c =
    let all : c.loop-b.b - sphere_count c.args.shapes.now ≡ length c.args.shapes.now.walls = omega (arith, c.spheres-spheres.ensures, c.walls.ensures, c.loop-b.auto.b-end (omega arith)) in
    c.loop-b.invariant.0 ∙ ap (λ n. c.args.raw.now.pairs ++ flat_map (wall_found c.args.shapes.now c.args.drift c.args.centers.now) (range_with_len (sphere_count c.args.shapes.now) n)) all
