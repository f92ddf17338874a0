use Rattle.std.proofs.Common.{arith, ap, ◌∙◌}
use Rattle.dem_num.specs.Vectors.{widened, norm2_of}
use Rattle.dem_turn.proofs.Arms.{offset_root_le}
use Rattle.dem_turn.proofs.swing.arm.Goals as goal

pub overflow_add-result : goal.overflow_add-result
overflow_add-result c = grind (arith, offset_root_le (widened c.args.o) c.norm2.result c.root.result c.requires (c.norm2.ensures ∙ ap norm2_of c.widen.ensures) c.root.ensures.value)

pub returns-else-is_zero-clause-size : goal.returns-else-is_zero-clause-size
returns-else-is_zero-clause-size c = offset_root_le (widened c.args.o) c.norm2.result c.root.result c.requires (c.norm2.ensures ∙ ap norm2_of c.widen.ensures) c.root.ensures.value
