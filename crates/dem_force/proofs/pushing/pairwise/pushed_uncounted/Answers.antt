use Rattle.std.proofs.Common.{sym, ◌∙◌}
use Rattle.dem_force.proofs.MeetingFacts.{meeting_none}
use Rattle.dem_force.proofs.pushing.pairwise.pushed_uncounted.Goals as goal

pub returns-in-None-clause-value : goal.returns-in-None-clause-value
returns-in-None-clause-value c =
    meeting_none c.args.shapes.now c.args.bodies.now c.args.spheres.now.centers c.args.pair c.args.held (sym c.pair_touch.ensures.value ∙ c.in-None.is)
