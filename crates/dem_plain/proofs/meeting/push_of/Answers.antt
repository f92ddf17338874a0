use Rattle.std.proofs.Common.{sym, ap, ◌∙◌}
use Rattle.dem_model.specs.Step.{meeting, held_at}
use Rattle.dem_force.proofs.MeetingFacts.{meeting_none}
use Rattle.dem_plain.proofs.meeting.push_of.Goals as goal

pub returns-in-Some-clause-value : goal.returns-in-Some-clause-value
returns-in-Some-clause-value c =
    c.push_at.ensures.value ∙ ap (meeting c.args.shapes.now c.args.bodies.now c.args.spheres.now.centers c.args.pair) c.displacement.ensures.value

pub returns-in-None-clause-value : goal.returns-in-None-clause-value
returns-in-None-clause-value c =
    meeting_none c.args.shapes.now c.args.bodies.now c.args.spheres.now.centers c.args.pair (held_at c.args.held.now c.args.pair)
    (sym c.uncounted.ensures.value ∙ c.in-None.is)
