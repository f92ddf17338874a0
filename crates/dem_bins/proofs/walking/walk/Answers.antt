use Rattle.std.proofs.Common.{◌+◌, ◌^◌, ◌++◌, List, ◌∙◌, ap, arith}
use Rattle.std.proofs.lemmas.List.Sums.{sum_by_more, sum_by-take-le}
use Rattle.dem_model.specs.declared.state.Pair.{Pair}
use Rattle.dem_bins.specs.Walk.{row_of, row_visits, rows_of, rows_visits}
use Rattle.dem_bins.proofs.WalkFacts.{added-room, flat-whole}
use Rattle.dem_bins.proofs.walking.walk.Goals as goal

pub add_row-requires-clause-room : goal.add_row-requires-clause-room
add_row-requires-clause-room g c =
    added-room (row_of c.args.shapes.now c.args.drift c.args.centers.now c.args.blocks.now c.args.keys.now) c.args.keys.now c.loop-i.i 0 c.args.raw.now.pairs c.loop-i.raw.pairs (2 ^ 32) (omega arith) c.loop-i.invariant.0 (unfold rows_of in c.requires.room)

pub returns-in_err-add_row-clause-counted : goal.returns-in_err-add_row-clause-counted
unfolding rows_visits
returns-in_err-add_row-clause-counted g c =
    omega (arith, c.loop-i.invariant.2, c.add_row.ensures.counted, sum_by_more (row_visits c.args.blocks.now c.args.keys.now) c.args.keys.now c.loop-i.i 0 (omega arith), sum_by-take-le (row_visits c.args.blocks.now c.args.keys.now) c.args.keys.now (c.loop-i.i + 1))

pub returns-clause-found : goal.returns-clause-found
unfolding rows_of
returns-clause-found g c =
    c.loop-i.invariant.0
    ∙ ap (λ (ps : List Pair). c.args.raw.now.pairs ++ ps) (flat-whole (row_of c.args.shapes.now c.args.drift c.args.centers.now c.args.blocks.now c.args.keys.now) c.args.keys.now c.loop-i.i (omega arith))

pub returns-clause-counted : goal.returns-clause-counted
unfolding rows_visits
returns-clause-counted g c =
    omega (arith, c.loop-i.invariant.2, sum_by-take-le (row_visits c.args.blocks.now c.args.keys.now) c.args.keys.now c.loop-i.i)
