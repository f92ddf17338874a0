use Rattle.std.proofs.Common.{◌≡◌, ap, arith}
use Rattle.dem_model.specs.Pairs.{sphere_count}
use Rattle.dem_shape.proofs.TableFacts.{table_length, table_small}
use Rattle.dem_shape.proofs.shapes.Shapes.spheres.Goals as goal

pub overflow_cast-result : goal.overflow_cast-result
overflow_cast-result c =
    omega (arith, table_length c.self.inside.scene.now c.self.inside.entries.items c.self.invariant.spheres, table_small c.self.inside.scene.now c.self.inside.entries.items c.self.invariant.spheres)

pub returns : goal.returns
returns c =
    let same : c.self.inside.scene.now ≡ c.args.self.now = c.self.view_is in
    omega (arith, table_length c.self.inside.scene.now c.self.inside.entries.items c.self.invariant.spheres, ap sphere_count same)
