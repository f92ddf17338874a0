use Rattle.std.proofs.Common.{◌≡◌, ◌+◌, ◌≤◌, length, take}
use Rattle.dem_step.specs.Contacts.{held_by}
use Rattle.dem_step.specs.Inside.{HaveMet}
use Rattle.dem_step.proofs.meeting.meet_all.Given as goal

abbrev pub invariant-loop-i : goal.invariant-loop-i
invariant-loop-i g l =
    HaveMet l.shapes l.bodies l.spheres.centers (held_by l.contacts) (take l.i l.contacts.list.pairs) l.loads l.fresh
    × (length l.fresh ≡ length l.fn.fresh)
    × (l.tests ≤ l.fn.tests + l.i)
