use Rattle.std.proofs.Common.{◌≡◌, map, take}
use Rattle.serde_json.specs.View.{view}
use Rattle.dem_scene.specs.Stands.{stand_data}
use Rattle.dem_scene.proofs.stand.stand_values.Given as goal

-- the objects of the stands so far
abbrev pub invariant-loop-stand : goal.invariant-loop-stand
invariant-loop-stand l = map view l.values.items ≡ map stand_data (take l.stand-index l.stands)
