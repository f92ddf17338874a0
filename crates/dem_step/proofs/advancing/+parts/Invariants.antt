use Rattle.std.proofs.Common.{◌+◌, ◌*◌}
use Rattle.dem_step.proofs.advancing.+parts.Given as goal

abbrev pub decreases-advance_part : goal.decreases-advance_part
decreases-advance_part g l = 4 * l.parts + 3

abbrev pub decreases-advance_both : goal.decreases-advance_both
decreases-advance_both g l = 4 * l.parts + 2

abbrev pub decreases-advance_both-second : goal.decreases-advance_both-second
decreases-advance_both-second g l = 4 * l.parts + 1
