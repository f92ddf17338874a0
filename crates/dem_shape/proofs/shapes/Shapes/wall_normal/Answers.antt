use Rattle.std.proofs.Common.{◌<◌, ◌-◌, ◌^◌, length, get_or, sym, ap, ◌∙◌, arith, subst}
use Rattle.dem_num.specs.declared.vector.Vec3.{Vec3}
use Rattle.dem_num.specs.Vectors.{widened, Within}
use Rattle.dem_model.specs.SceneValue.{SceneValue}
use Rattle.dem_model.specs.Pairs.{sphere_count}
use Rattle.dem_shape.specs.Table.{AreNormals}
use Rattle.dem_shape.proofs.TableFacts.{normal_at, normal_count, wall_there}
use Rattle.dem_shape.proofs.shapes.Shapes.wall_normal.Goals as goal

pub index-requires : goal.index-requires
index-requires c =
    let are : AreNormals c.args.self.now.walls c.self.inside.normals.items = subst (λ (s : SceneValue). AreNormals s.walls c.self.inside.normals.items) c.self.view_is c.self.invariant.walls in
    let there : c.args.b - sphere_count c.args.self.now < length c.args.self.now.walls = wall_there c.args.self.now c.args.b c.requires.later c.requires.there in
    omega (arith, there, normal_count c.args.self.now.walls c.self.inside.normals.items are, c.spheres.ensures)

pub returns-clause-value : goal.returns-clause-value
returns-clause-value c =
    let are : AreNormals c.args.self.now.walls c.self.inside.normals.items = subst (λ (s : SceneValue). AreNormals s.walls c.self.inside.normals.items) c.self.view_is c.self.invariant.walls in
    let there : c.args.b - sphere_count c.args.self.now < length c.args.self.now.walls = wall_there c.args.self.now c.args.b c.requires.later c.requires.there in
    c.index.ensures
    ∙ ap (λ n. get_or c.self.inside.normals.items (c.args.b - n) c.index.result.now) c.spheres.ensures
    ∙ normal_at c.args.self.now c.self.inside.normals.items c.args.b c.index.result.now are there

pub returns-clause-size : goal.returns-clause-size
returns-clause-size c =
    let are : AreNormals c.args.self.now.walls c.self.inside.normals.items = subst (λ (s : SceneValue). AreNormals s.walls c.self.inside.normals.items) c.self.view_is c.self.invariant.walls in
    let there : c.args.b - sphere_count c.args.self.now < length c.args.self.now.walls = wall_there c.args.self.now c.args.b c.requires.later c.requires.there in
    let place : c.args.b - c.spheres.result < length c.self.inside.normals.items = omega (arith, there, normal_count c.args.self.now.walls c.self.inside.normals.items are, c.spheres.ensures) in
    subst (λ (n : Vec3). Within (widened n) (2 ^ 30)) (sym c.index.ensures) (are.small (c.args.b - c.spheres.result) c.index.result.now place)
