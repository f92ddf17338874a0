use Rattle.std.proofs.Common.{arith}
use Rattle.dem_num.proofs.ShareFacts.{guess_below, guess_above}
use Rattle.dem_num.proofs.shares.guessed_share.Goals as goal

pub returns-clause-below : goal.returns-clause-below
returns-clause-below c = guess_below c.args.part c.args.whole c.args.scale c.args.reciprocal _ c.requires.below c.requires.close (omega (arith, c.high.ensures))

pub returns-clause-above : goal.returns-clause-above
returns-clause-above c =
    guess_above c.args.part c.args.whole c.args.scale c.args.reciprocal _ c.requires.some c.requires.part c.requires.close (omega (arith, c.high.ensures))
