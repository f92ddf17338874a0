use Rattle.std.proofs.Common.{◌≡◌, false, take}
use Rattle.std.specs.List.{list_any}
use Rattle.dem_model.specs.Families.{has_both}
use Rattle.dem_shape.proofs.families.is_off.Given as goal

abbrev pub invariant-loop-entry : goal.invariant-loop-entry
invariant-loop-entry l = list_any (has_both l.f l.g) (take l.entry-index l.entry-items) ≡ false
