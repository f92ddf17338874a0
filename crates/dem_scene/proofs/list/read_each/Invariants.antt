use Rattle.std.proofs.Common.{◌≡◌, length, All}
use Rattle.serde_json.specs.View.{items_view}
use Rattle.dem_model.specs.Reading.{each_from}
use Rattle.dem_scene.proofs.Elements.{rest_from}
use Rattle.dem_scene.proofs.list.read_each.Given as goal

-- what was read so far, and then what is read of the others, is what is read of all
abbrev pub invariant-loop-i : goal.invariant-loop-i
invariant-loop-i g l = record {
  so_far : rest_from (g.R.ReadItem.gives l.reader) l.found l.i l.values ≡ each_from (g.R.ReadItem.gives l.reader) 0 (items_view l.values);
  ranges : All (g.R.ReadItem.keeps l.reader) l.found;
  count : length l.found ≡ l.i;
}
