use Rattle.std.proofs.Common.{◌≡◌, ◌++◌, map, take}
use Rattle.dem_model.specs.Spheres.{sphere_of}
use Rattle.dem_shape.specs.Table.{table_entry_of}
use Rattle.dem_shape.proofs.shapes.add_clump.Given as goal

abbrev pub invariant-loop-ball : goal.invariant-loop-ball
invariant-loop-ball l = l.entries.items ≡ l.initial.entries.items ++ map (table_entry_of l.scene) (map (sphere_of l.clump) (take l.ball-index l.ball-items))
