use Rattle.std.proofs.Common.{◌≡◌, ◌++◌, ◌∙◌, ap, arith}
use Rattle.std.specs.List.{flat_map, range_with_len}
use Rattle.dem_model.specs.Pairs.{sphere_count, pair_of}
use Rattle.dem_margin.specs.NearList.{pair_if_near}
use Rattle.dem_bins.specs.Walk.{wall_found}
use Rattle.dem_bins.proofs.RoomFacts.{pair_if_near-short}
use Rattle.dem_bins.proofs.WalkFacts.{flat-after, flat-short}
use Rattle.dem_bins.proofs.walling.add_wall.Goals as goal

pub add_beside-requires-clause-room : goal.add_beside-requires-clause-room
add_beside-requires-clause-room g c =
    omega (
      arith,
      c.requires.room,
      flat-short (λ a. pair_if_near c.args.shapes.now c.args.drift c.args.centers.now (pair_of a c.args.b)) c.loop-a.a c.args.raw.now.pairs c.loop-a.raw.pairs 1
          (λ a l. pair_if_near-short c.args.shapes.now c.args.drift c.args.centers.now (pair_of a c.args.b)) c.loop-a.invariant.0,
    )

pub loop-a-preserved : goal.loop-a-preserved
loop-a-preserved g c = (
  flat-after (λ a. pair_if_near c.args.shapes.now c.args.drift c.args.centers.now (pair_of a c.args.b)) c.loop-a.a c.args.raw.now.pairs c.loop-a.raw.pairs c.add_beside.new.raw.pairs c.loop-a.invariant.0 c.in_ok-add_beside.ensures.found,
  c.add_beside.ensures.from ∙ c.loop-a.invariant.1,
  omega (arith, c.tick.ensures, c.loop-a.invariant.2),
)

pub returns-clause-found : goal.returns-clause-found
unfolding wall_found
returns-clause-found g c =
    let all : c.loop-a.a ≡ sphere_count c.args.shapes.now = omega arith in
    c.loop-a.invariant.0 ∙ ap (λ n. c.args.raw.now.pairs ++ flat_map (λ a. pair_if_near c.args.shapes.now c.args.drift c.args.centers.now (pair_of a c.args.b)) (range_with_len 0 n)) all
