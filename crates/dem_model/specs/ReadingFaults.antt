-- The line that a refused scene text gives.
use Rattle.std.specs.Prelude.{ℕ, List, [], ◌++◌, codes, decimal}
use Rattle.dem_model.specs.declared.fault.Spot.{Spot}
use Rattle.dem_model.specs.declared.fault.SceneFault.{SceneFault}
use Rattle.dem_model.specs.declared.fault.SceneFault.TheVariants.{TooLong, NotJson, Field, Unknown, Range, Index, Count, Version, OverLimit, OutsideBox, OutOfMemory}
use Rattle.dem_model.specs.ReadingNames.{name_text}

-- a fault at a place: its kind, the name, the outer number, the inner number
unfoldable pub spot_text : List ℕ → Spot → List ℕ
spot_text kind at = codes "scene: " ++ kind ++ codes " " ++ name_text at.name ++ codes " " ++ decimal at.i ++ codes " " ++ decimal at.j ++ codes "\n"

-- a fault of a clump: its kind and the clump
unfoldable pub clump_text : List ℕ → ℕ → List ℕ
clump_text kind clump = codes "scene: " ++ kind ++ codes " " ++ decimal clump ++ codes "\n"

-- the line of a fault; want of memory is no fault of the text and has none
unfoldable pub fault_text : SceneFault → List ℕ
fault_text TooLong = codes "scene: longer than 16777216 bytes\n"
fault_text NotJson = codes "scene: not JSON\n"
fault_text (Field at) = spot_text (codes "field") at
fault_text (Unknown at) = spot_text (codes "unknown") at
fault_text (Range at) = spot_text (codes "range") at
fault_text (Index at) = spot_text (codes "index") at
fault_text (Count at) = spot_text (codes "count") at
fault_text Version = codes "scene: version\n"
fault_text (OverLimit clump) = clump_text (codes "over limit") clump
fault_text (OutsideBox clump) = clump_text (codes "outside box") clump
fault_text OutOfMemory = []
