use Rattle.std.proofs.Common.{◌≡◌, length, take}
use Rattle.dem_model.specs.Centers.{centers_of}
use Rattle.dem_model.specs.Near.{near}
use Rattle.dem_step.specs.Contacts.{held_by}
use Rattle.dem_step.specs.Stepper.{state_at}
use Rattle.dem_step.proofs.AheadFacts.{IsHandedOn}
use Rattle.dem_step.proofs.ahead.meet_next.Given as goal

abbrev pub invariant-loop-i : goal.invariant-loop-i
invariant-loop-i l =
    IsHandedOn l.shapes l.bodies l.spheres.centers (held_by l.contacts) l.old.pairs (near l.shapes l.drift (centers_of l.shapes (state_at l.shapes l.old.from).bodies))
    (take l.i l.contacts.list.pairs) l.loads l.fresh
    × (length l.fresh ≡ length l.fn.fresh)
