use Rattle.std.proofs.Common.{◌≡◌, length, map, take}
use Rattle.dem_margin.specs.Marks.{may_touch}
use Rattle.dem_step.proofs.marks.mark_all.Given as goal

abbrev pub invariant-loop-i : goal.invariant-loop-i
invariant-loop-i l = (take l.i l.marks ≡ map (may_touch l.shapes l.left l.centers) (take l.i l.list.pairs)) × (length l.marks ≡ length l.fn.marks)
