use Rattle.std.proofs.Common.{◌+◌, ◌^◌, ◌++◌, List, get_or, ◌∙◌, sym, ap, arith, refl}
use Rattle.std.specs.Prelude.{if◌then◌else◌}
use Rattle.std.proofs.lemmas.List.{append-nil}
use Rattle.std.proofs.lemmas.List.Sums.{sum_by_more, sum_by-take-le}
use Rattle.dem_model.specs.declared.state.Pair.{Pair}
use Rattle.dem_bins.specs.Walk.{meets, met, row_of, row_visits}
use Rattle.dem_bins.proofs.WalkFacts.{row-begins, row-ends, row-whole, added-more, added-place}
use Rattle.dem_bins.proofs.walking.add_row.Goals as goal

pub loop-j-init : goal.loop-j-init
loop-j-init g c = (
  sym (ap (λ (ps : List Pair). c.args.raw.now.pairs ++ ps) (row-begins c.args.shapes.now c.args.drift c.args.centers.now c.args.blocks.now c.args.keys.now c.args.i c.requires.keys.order c.requires.there) ∙ append-nil c.args.raw.now.pairs),
  refl,
  omega arith,
)

pub returns-then-end-second-clause-found : goal.returns-then-end-second-clause-found
returns-then-end-second-clause-found g c =
    c.loop-j.invariant.0
    ∙ ap (λ (ps : List Pair). c.args.raw.now.pairs ++ ps)
    (row-ends c.args.shapes.now c.args.drift c.args.centers.now c.args.blocks.now c.args.keys.now (get_or c.args.keys.now c.args.i 0) c.loop-j.j c.requires.keys.order (omega arith) (omega (arith, c.end_after-end.ensures, c.if-end-second.true)))

pub returns-then-end-second-clause-counted : goal.returns-then-end-second-clause-counted
unfolding row_visits
returns-then-end-second-clause-counted g c =
    omega (arith, c.loop-j.invariant.2, sum_by-take-le (λ d. if meets c.args.blocks.now (get_or c.args.keys.now c.args.i 0) d then 1 else 0) c.args.keys.now c.loop-j.j)

pub visit-requires-clause-room : goal.visit-requires-clause-room
visit-requires-clause-room g c =
    added-place (met c.args.shapes.now c.args.drift c.args.centers.now c.args.blocks.now (get_or c.args.keys.now c.args.i 0)) c.args.keys.now c.loop-j.j 0 c.args.raw.now.pairs c.loop-j.raw.pairs (2 ^ 32) (omega arith) c.loop-j.invariant.0 (unfold row_of in c.requires.room)

pub returns-in_err-visit-clause-counted : goal.returns-in_err-visit-clause-counted
unfolding row_visits
returns-in_err-visit-clause-counted g c =
    omega (arith, c.loop-j.invariant.2, c.visit.ensures.counted, sum_by_more (λ d. if meets c.args.blocks.now (get_or c.args.keys.now c.args.i 0) d then 1 else 0) c.args.keys.now c.loop-j.j 0 (omega arith), sum_by-take-le (λ d. if meets c.args.blocks.now (get_or c.args.keys.now c.args.i 0) d then 1 else 0) c.args.keys.now (c.loop-j.j + 1))

pub loop-j-preserved : goal.loop-j-preserved
loop-j-preserved g c = (
  added-more (met c.args.shapes.now c.args.drift c.args.centers.now c.args.blocks.now (get_or c.args.keys.now c.args.i 0)) c.args.keys.now c.loop-j.j 0 c.args.raw.now.pairs c.loop-j.raw.pairs c.visit.new.raw.pairs (omega arith) c.loop-j.invariant.0 c.in_ok-visit.ensures.found,
  c.visit.ensures.from ∙ c.loop-j.invariant.1,
  omega (arith, c.loop-j.invariant.2, c.visit.ensures.counted, sum_by_more (λ d. if meets c.args.blocks.now (get_or c.args.keys.now c.args.i 0) d then 1 else 0) c.args.keys.now c.loop-j.j 0 (omega arith)),
)

pub returns-clause-found : goal.returns-clause-found
returns-clause-found g c =
    c.loop-j.invariant.0
    ∙ ap (λ (ps : List Pair). c.args.raw.now.pairs ++ ps)
    (row-whole c.args.shapes.now c.args.drift c.args.centers.now c.args.blocks.now c.args.keys.now (get_or c.args.keys.now c.args.i 0) c.loop-j.j (omega arith))

pub returns-clause-counted : goal.returns-clause-counted
unfolding row_visits
returns-clause-counted g c =
    omega (arith, c.loop-j.invariant.2, sum_by-take-le (λ d. if meets c.args.blocks.now (get_or c.args.keys.now c.args.i 0) d then 1 else 0) c.args.keys.now c.loop-j.j)
