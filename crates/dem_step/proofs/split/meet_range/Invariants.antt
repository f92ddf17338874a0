use Rattle.std.proofs.Common.{◌≡◌, ◌≤◌, length}
use Rattle.dem_step.specs.Contacts.{held_by}
use Rattle.dem_step.specs.Felt.{AreFelt}
use Rattle.dem_step.specs.Inside.{HaveMet}
use Rattle.dem_step.specs.Split.{pairs_between}
use Rattle.dem_step.proofs.split.meet_range.Given as goal

abbrev pub invariant-loop-i : goal.invariant-loop-i
invariant-loop-i l =
    HaveMet l.shapes l.bodies l.spheres.centers (held_by l.contacts) (pairs_between l.from l.i l.contacts.list.pairs) l.loads l.fresh
    × (length l.fresh ≡ length l.fn.fresh)
    × (l.from ≤ l.i)
    × AreFelt l.felt l.loads
