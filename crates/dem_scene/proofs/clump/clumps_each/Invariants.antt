use Rattle.std.proofs.Common.{◌≡◌, ◌≤◌, length, All}
use Rattle.serde_json.specs.View.{items_view}
use Rattle.dem_model.specs.declared.limits.TheConstants.{MAX_SPHERES}
use Rattle.dem_model.specs.Spheres.{spheres_from}
use Rattle.dem_model.specs.ReadingKinds.{clumps_from}
use Rattle.dem_scene.specs.Clumps.{IsClumpRead}
use Rattle.dem_scene.proofs.ClumpFacts.{clumps_rest}
use Rattle.dem_scene.proofs.clump.clumps_each.Given as goal

-- what was read so far, and then what is read of the others, is what is read of all
abbrev pub invariant-loop-i : goal.invariant-loop-i
invariant-loop-i l = record {
  so_far : clumps_rest l.later l.templates l.found l.before l.i l.values ≡ clumps_from l.later l.templates 0 0 (items_view l.values);
  ranges : All (IsClumpRead l.templates) l.found;
  count : length l.found ≡ l.i;
  counted : length (spheres_from l.templates 0 l.found) ≡ l.before;
  room : l.before ≤ MAX_SPHERES;
}
