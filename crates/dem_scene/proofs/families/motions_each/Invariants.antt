use Rattle.std.proofs.Common.{◌≡◌, length, All}
use Rattle.serde_json.specs.View.{items_view}
use Rattle.dem_model.specs.ReadingKinds.{motions_from}
use Rattle.dem_model.specs.Sound.{IsMotion}
use Rattle.dem_scene.proofs.FamilyFacts.{motions_rest, AscendTo}
use Rattle.dem_scene.proofs.families.motions_each.Given as goal

-- what was read so far, and then what is read of the others, is what is read of all
abbrev pub invariant-loop-i : goal.invariant-loop-i
invariant-loop-i l = record {
  so_far : motions_rest l.found l.least l.i l.values ≡ motions_from 0 0 (items_view l.values);
  ranges : All IsMotion l.found;
  ascends : AscendTo 0 l.found l.least;
  count : length l.found ≡ l.i;
}
