use Rattle.std.proofs.Common.{take}
use Rattle.dem_shape.specs.Table.{AreNormals}
use Rattle.dem_shape.proofs.shapes.wall_normals.Given as goal

abbrev pub invariant-loop-wall : goal.invariant-loop-wall
invariant-loop-wall l = AreNormals (take l.wall-index l.wall-items) l.normals.items
