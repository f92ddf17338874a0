use Rattle.std.proofs.Common.{arith}
use Rattle.dem_look.proofs.FlagFacts.{lows-more, lows-all}
use Rattle.dem_look.proofs.middle.flag_lows.Goals as goal

pub loop-k-preserved : goal.loop-k-preserved
loop-k-preserved c =
    lows-more c.args.shapes.now c.args.state.now c.loop-k.k c.loop-k.flags c.is_low.result (omega (arith, c.loop-k-test.true, c.loop-k.auto.flags)) c.loop-k.invariant c.is_low.ensures

pub returns : goal.returns
returns c =
    lows-all c.args.shapes.now c.args.state.now c.loop-k.k c.loop-k.flags (omega (arith, c.loop-k.auto.flags, c.requires.made))
    (omega (arith, c.loop-k-test.false, c.loop-k.auto.k-end, c.requires.made)) c.loop-k.invariant
