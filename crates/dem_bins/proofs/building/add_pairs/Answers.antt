use Rattle.std.proofs.Common.{ℕ, ◌≡◌, ◌*◌, ◌≤◌, ◌++◌, List, length, ◌∙◌, sym, ap, ap₂, arith}
use Rattle.std.proofs.lemmas.List.{length-append}
use Rattle.std.proofs.lemmas.Nat.{mul-le}
use Rattle.std.proofs.lemmas.Result.{on_ok_weaker}
use Rattle.dem_model.specs.Pairs.{sphere_count}
use Rattle.dem_model.specs.declared.state.Pair.{Pair}
use Rattle.dem_bins.specs.Walk.{rows_of, walls_found}
use Rattle.dem_bins.proofs.PlanFacts.{IsPlan, plan-blocks, plan-keys, plan-boxes, plan-room, plan-counted, plan-found, plan-read}
use Rattle.dem_bins.proofs.building.add_pairs.Goals as goal

pub sorted_keys-requires-clause-count : goal.sorted_keys-requires-clause-count
sorted_keys-requires-clause-count g c =
    (plan-blocks c.args.shapes.now c.args.grid.now c.args.centers.now c.as_slice.result.now c.scene-scene.ensures.sound c.requires.grid c.requires.centers (c.as_slice.ensures.value ∙ c.in_ok-blocks.ensures)).1

pub sorted_keys-requires-clause-blocks : goal.sorted_keys-requires-clause-blocks
sorted_keys-requires-clause-blocks g c =
    (plan-blocks c.args.shapes.now c.args.grid.now c.args.centers.now c.as_slice.result.now c.scene-scene.ensures.sound c.requires.grid c.requires.centers (c.as_slice.ensures.value ∙ c.in_ok-blocks.ensures)).0

pub walk-requires-clause-keys : goal.walk-requires-clause-keys
walk-requires-clause-keys g c =
    let plan : IsPlan c.args.shapes.now c.args.grid.now c.args.centers.now c.as_slice-2.result.now c.as_slice-3.result.now =
    plan-read c.args.shapes.now c.args.grid.now c.args.centers.now c.as_slice.result.now c.in_ok-blocks.blocks.items c.as_slice-2.result.now c.in_ok-keys.keys.items c.as_slice-3.result.now
    c.scene-scene.ensures.sound c.requires.grid c.requires.centers c.as_slice.ensures.value c.in_ok-blocks.ensures c.as_slice-2.ensures.value c.as_slice-3.ensures.value c.in_ok-keys.ensures.moved c.in_ok-keys.ensures.sorted in
    plan-keys c.args.shapes.now c.args.grid.now c.args.centers.now c.as_slice-2.result.now c.as_slice-3.result.now plan

pub walk-requires-clause-boxes : goal.walk-requires-clause-boxes
walk-requires-clause-boxes g c =
    let plan : IsPlan c.args.shapes.now c.args.grid.now c.args.centers.now c.as_slice-2.result.now c.as_slice-3.result.now =
    plan-read c.args.shapes.now c.args.grid.now c.args.centers.now c.as_slice.result.now c.in_ok-blocks.blocks.items c.as_slice-2.result.now c.in_ok-keys.keys.items c.as_slice-3.result.now
    c.scene-scene.ensures.sound c.requires.grid c.requires.centers c.as_slice.ensures.value c.in_ok-blocks.ensures c.as_slice-2.ensures.value c.as_slice-3.ensures.value c.in_ok-keys.ensures.moved c.in_ok-keys.ensures.sorted in
    plan-boxes c.args.shapes.now c.args.grid.now c.drift.result c.args.centers.now c.as_slice-2.result.now c.as_slice-3.result.now plan c.drift.ensures

pub walk-requires-clause-room : goal.walk-requires-clause-room
walk-requires-clause-room g c =
    let plan : IsPlan c.args.shapes.now c.args.grid.now c.args.centers.now c.as_slice-2.result.now c.as_slice-3.result.now =
    plan-read c.args.shapes.now c.args.grid.now c.args.centers.now c.as_slice.result.now c.in_ok-blocks.blocks.items c.as_slice-2.result.now c.in_ok-keys.keys.items c.as_slice-3.result.now
    c.scene-scene.ensures.sound c.requires.grid c.requires.centers c.as_slice.ensures.value c.in_ok-blocks.ensures c.as_slice-2.ensures.value c.as_slice-3.ensures.value c.in_ok-keys.ensures.moved c.in_ok-keys.ensures.sorted in
    omega (arith, ap length c.requires.empty, plan-room c.args.shapes.now c.args.grid.now c.drift.result c.args.centers.now c.as_slice-2.result.now c.as_slice-3.result.now plan)

pub returns-in_err-walk-clause-counted : goal.returns-in_err-walk-clause-counted
returns-in_err-walk-clause-counted g c =
    let plan : IsPlan c.args.shapes.now c.args.grid.now c.args.centers.now c.as_slice-2.result.now c.as_slice-3.result.now =
    plan-read c.args.shapes.now c.args.grid.now c.args.centers.now c.as_slice.result.now c.in_ok-blocks.blocks.items c.as_slice-2.result.now c.in_ok-keys.keys.items c.as_slice-3.result.now
    c.scene-scene.ensures.sound c.requires.grid c.requires.centers c.as_slice.ensures.value c.in_ok-blocks.ensures c.as_slice-2.ensures.value c.as_slice-3.ensures.value c.in_ok-keys.ensures.moved c.in_ok-keys.ensures.sorted in
    omega (arith, c.walk.ensures.counted, plan-counted c.args.shapes.now c.args.grid.now c.args.centers.now c.as_slice-2.result.now c.as_slice-3.result.now plan)

pub add_walls-requires-clause-room : goal.add_walls-requires-clause-room
unfolding sphere_count
add_walls-requires-clause-room g c =
    let plan : IsPlan c.args.shapes.now c.args.grid.now c.args.centers.now c.as_slice-2.result.now c.as_slice-3.result.now =
    plan-read c.args.shapes.now c.args.grid.now c.args.centers.now c.as_slice.result.now c.in_ok-blocks.blocks.items c.as_slice-2.result.now c.in_ok-keys.keys.items c.as_slice-3.result.now
    c.scene-scene.ensures.sound c.requires.grid c.requires.centers c.as_slice.ensures.value c.in_ok-blocks.ensures c.as_slice-2.ensures.value c.as_slice-3.ensures.value c.in_ok-keys.ensures.moved c.in_ok-keys.ensures.sorted in
    let walls : sphere_count c.args.shapes.now * length c.args.shapes.now.walls ≤ 32768 * 64 = mul-le (sphere_count c.args.shapes.now) (length c.args.shapes.now.walls) 32768 64 c.scene-scene.ensures.sound.sphere_count c.scene-scene.ensures.sound.wall_count in
    omega (
      arith,
      ap length c.requires.empty,
      ap length c.in_ok-walk.ensures.found,
      length-append c.args.raw.now.pairs (rows_of c.args.shapes.now c.drift.result c.args.centers.now c.as_slice-2.result.now c.as_slice-3.result.now),
      plan-room c.args.shapes.now c.args.grid.now c.drift.result c.args.centers.now c.as_slice-2.result.now c.as_slice-3.result.now plan,
      walls,
    )

pub returns-clause-found : goal.returns-clause-found
returns-clause-found g c =
    let plan : IsPlan c.args.shapes.now c.args.grid.now c.args.centers.now c.as_slice-2.result.now c.as_slice-3.result.now =
    plan-read c.args.shapes.now c.args.grid.now c.args.centers.now c.as_slice.result.now c.in_ok-blocks.blocks.items c.as_slice-2.result.now c.in_ok-keys.keys.items c.as_slice-3.result.now
    c.scene-scene.ensures.sound c.requires.grid c.requires.centers c.as_slice.ensures.value c.in_ok-blocks.ensures c.as_slice-2.ensures.value c.as_slice-3.ensures.value c.in_ok-keys.ensures.moved c.in_ok-keys.ensures.sorted in
    let spheres : c.walk.new.raw.pairs ≡ rows_of c.args.shapes.now c.drift.result c.args.centers.now c.as_slice-2.result.now c.as_slice-3.result.now =
    c.in_ok-walk.ensures.found ∙ ap (λ (ps : List Pair). ps ++ rows_of c.args.shapes.now c.drift.result c.args.centers.now c.as_slice-2.result.now c.as_slice-3.result.now) c.requires.empty in
    on_ok_weaker c.add_walls.result
    (λ (h : c.add_walls.new.raw.pairs ≡ c.walk.new.raw.pairs ++ walls_found c.args.shapes.now c.drift-2.result c.args.centers.now).
    plan-found c.args.shapes.now c.args.grid.now c.drift.result c.args.centers.now c.as_slice-2.result.now c.as_slice-3.result.now c.add_walls.new.raw.pairs plan c.drift.ensures
    (h ∙ ap₂ (λ (ps : List Pair) (n : ℕ). ps ++ walls_found c.args.shapes.now n c.args.centers.now) spheres (c.drift-2.ensures ∙ sym c.drift.ensures)))
    c.add_walls.ensures.found

pub returns-clause-counted : goal.returns-clause-counted
returns-clause-counted g c =
    let plan : IsPlan c.args.shapes.now c.args.grid.now c.args.centers.now c.as_slice-2.result.now c.as_slice-3.result.now =
    plan-read c.args.shapes.now c.args.grid.now c.args.centers.now c.as_slice.result.now c.in_ok-blocks.blocks.items c.as_slice-2.result.now c.in_ok-keys.keys.items c.as_slice-3.result.now
    c.scene-scene.ensures.sound c.requires.grid c.requires.centers c.as_slice.ensures.value c.in_ok-blocks.ensures c.as_slice-2.ensures.value c.as_slice-3.ensures.value c.in_ok-keys.ensures.moved c.in_ok-keys.ensures.sorted in
    omega (arith, c.walk.ensures.counted, c.add_walls.ensures.counted, plan-counted c.args.shapes.now c.args.grid.now c.args.centers.now c.as_slice-2.result.now c.as_slice-3.result.now plan)
