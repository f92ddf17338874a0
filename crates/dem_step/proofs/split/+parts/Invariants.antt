use Rattle.std.proofs.Common.{◌+◌, ◌*◌}
use Rattle.dem_step.proofs.split.+parts.Given as goal

abbrev pub decreases-meet_part : goal.decreases-meet_part
decreases-meet_part g l = 4 * l.parts + 3

abbrev pub decreases-meet_both : goal.decreases-meet_both
decreases-meet_both g l = 4 * l.parts + 2

abbrev pub decreases-meet_both-second : goal.decreases-meet_both-second
decreases-meet_both-second g l = 4 * l.parts + 1
