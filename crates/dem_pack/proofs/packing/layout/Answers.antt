use Rattle.std.proofs.Common.{◌≤◌, ◌^◌, arith}
use Rattle.dem_pack.proofs.packing.layout.Goals as goal
use Rattle.dem_pack.proofs.packing.layout.Goals.{in-Grid, in-Staggered}

pub returns-clause-layout : goal.returns-clause-layout
returns-clause-layout c =
    let gap : c.from.result ≤ 2 ^ 26 = omega (arith, c.from.ensures, c.requires.ask.gap) in
    let sized : (c.match-ask.shift.0 ≤ 2 ^ 30) × (1 ≤ c.match-ask.shift.1) × (c.match-ask.shift.1 ≤ 2 ^ 30) =
    elim c.match-ask.branch [
      | in-Grid w ↦ rw (w.shift-is) (omega arith, omega arith, omega arith)
      | in-Staggered w ↦ rw (w.shift-is) (omega arith, w.rise.ensures.some, omega (arith, w.rise.ensures.few))
    ] in
    record {
      extent = record { low_le = c.requires.some; le_high = omega arith };
      pitch = record { low_le = omega arith; le_high = omega arith };
      shift = sized.0;
      rise = record { low_le = sized.1; le_high = sized.2 };
      x = c.stretch.ensures.stretch;
      y = c.stretch-2.ensures.stretch;
      z = c.stretch-3.ensures.stretch;
    }
