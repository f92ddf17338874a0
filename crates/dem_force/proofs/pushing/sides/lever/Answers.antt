use Rattle.std.proofs.Common.{◌∙◌, sym}
use Rattle.dem_num.specs.Vectors.{widened}
use Rattle.dem_turn.proofs.StillFacts.{turned_zero}
use Rattle.dem_force.proofs.pushing.sides.lever.Goals as goal

pub returns-then-is_zero-clause-value : goal.returns-then-is_zero-clause-value
returns-then-is_zero-clause-value c = sym (turned_zero c.args.rows.now (widened c.args.at) (sym c.is_zero.ensures ∙ c.if-is_zero.true))
