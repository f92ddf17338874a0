use Rattle.std.proofs.Common.{◌+◌, ◌*◌}
use Rattle.dem_bench.proofs.bare.+parts.Given as goal

abbrev pub decreases-turn_parts : goal.decreases-turn_parts
decreases-turn_parts g l = 4 * l.left + 3

abbrev pub decreases-turn_both : goal.decreases-turn_both
decreases-turn_both g l = 4 * l.left + 2

abbrev pub decreases-turn_both-turn_rest : goal.decreases-turn_both-turn_rest
decreases-turn_both-turn_rest g l = 4 * l.left + 1

abbrev pub decreases-turn_both-turn_first : goal.decreases-turn_both-turn_first
decreases-turn_both-turn_first g l = 4 * l.left + 1
