use Rattle.std.proofs.Common.{◌≡◌, take}
use Rattle.dem_look.specs.Inside.{counts_of}
use Rattle.dem_look.proofs.contacts.count_contacts.Given as goal

abbrev pub invariant-loop-entry : goal.invariant-loop-entry
invariant-loop-entry l = l.counts ≡ counts_of l.shapes (take l.entry-index l.held)
