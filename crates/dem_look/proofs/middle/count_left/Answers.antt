use Rattle.std.proofs.Common.{arith}
use Rattle.dem_look.proofs.FlagFacts.{left-more, both-kept, other-kept}
use Rattle.dem_look.proofs.middle.count_left.Goals as goal
use Rattle.dem_look.proofs.middle.count_left.Goals.{then-low-k+then-not-high-k, else-low-k, else-low-k-via-then-low-k+else-not-high-k, else-low-k-via-else-low-k}

pub loop-k-preserved : goal.loop-k-preserved
loop-k-preserved c = elim c.if-low-k.branch [
  | then-low-k+then-not-high-k w ↦ rw (w.count-is)
      (left-more c.args.low.now c.args.high.now c.loop-k.k c.loop-k.count c.loop-k.invariant.0 w.if-low-k.true w.if-not-high-k.true, omega (arith, c.loop-k.invariant.1))
  | else-low-k w ↦ rw (w.count-is) (
    elim w.else-low-k.branch [
      | else-low-k-via-then-low-k+else-not-high-k v ↦
          both-kept c.args.low.now c.args.high.now c.loop-k.k c.loop-k.count c.loop-k.invariant.0 v.if-low-k.true v.if-not-high-k.false
      | else-low-k-via-else-low-k v ↦ other-kept c.args.low.now c.args.high.now c.loop-k.k c.loop-k.count c.loop-k.invariant.0 v.if-low-k.false
    ],
    omega (arith, c.loop-k.invariant.1),
  )
]
