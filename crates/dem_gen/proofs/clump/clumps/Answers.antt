use Rattle.std.proofs.Common.{◌∙◌, ap}
use Rattle.dem_model.specs.Made.{made_clump}
use Rattle.dem_gen.proofs.ListFacts.{no_clumps, more_clumps, seven_later}
use Rattle.dem_gen.proofs.WordFacts.{none_yet}
use Rattle.dem_gen.proofs.clump.clumps.Goals as goal

pub loop-i-init : goal.loop-i-init
loop-i-init c = (c.new-clumps.ensures ∙ no_clumps c.args.words.now c.args.edge, none_yet c.args.words.now)

pub loop-i-preserved : goal.loop-i-preserved
loop-i-preserved c = (
  c.in_ok-push.ensures.ok
      ∙ more_clumps c.args.words.now c.args.edge c.loop-i.words c.loop-i.i _ _ c.loop-i.invariant.0 c.loop-i.invariant.1
      (c.clump.ensures.value ∙ ap (made_clump c.loop-i.words c.args.edge) c.from.ensures),
  seven_later c.args.words.now c.loop-i.words c.loop-i.i _ c.loop-i.invariant.1 c.clump.ensures.after,
)
