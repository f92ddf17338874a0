use Rattle.std.proofs.Common.{◌≡◌, map, take}
use Rattle.dem_model.specs.Spheres.{spheres_from}
use Rattle.dem_shape.specs.Table.{table_entry_of}
use Rattle.dem_shape.proofs.shapes.Shapes.new.Given as goal

abbrev pub invariant-loop-k : goal.invariant-loop-k
invariant-loop-k l = l.entries.items ≡ map (table_entry_of l.scene) (spheres_from l.scene.templates 0 (take l.k l.scene.clumps))
