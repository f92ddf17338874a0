use Rattle.std.proofs.Common.{◌∙◌, ap}
use Rattle.dem_model.specs.Step.{push_of}
use Rattle.dem_force.proofs.MeetingFacts.{meeting_some}
use Rattle.dem_force.proofs.pushing.meeting.push_at.Goals as goal

pub returns-clause-value : goal.returns-clause-value
returns-clause-value c =
    meeting_some c.args.shapes.now c.args.bodies.now c.args.spheres.now.centers c.args.pair c.args.held c.args.touch c.push_from.result c.requires.touches
    (c.push_from.ensures.value ∙ ap (push_of c.args.shapes.now c.args.bodies.now c.args.pair c.args.touch) c.or_none.ensures.value)
