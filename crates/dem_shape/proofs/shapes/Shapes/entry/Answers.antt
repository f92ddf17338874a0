use Rattle.std.proofs.Common.{◌≡◌, ◌<◌, ap, ◌∙◌, subst, arith}
use Rattle.dem_model.specs.Motion.{IsSphere}
use Rattle.dem_model.specs.Pairs.{sphere_at, sphere_count}
use Rattle.dem_model.proofs.SoundFacts.{sphere_at-sound}
use Rattle.dem_shape.specs.Table.{table_entry_of}
use Rattle.dem_shape.proofs.TableFacts.{table_length, table_entry}
use Rattle.dem_shape.proofs.shapes.Shapes.entry.Goals as goal

pub index-requires : goal.index-requires
index-requires c =
    let same : c.self.inside.scene.now ≡ c.args.self.now = c.self.view_is in
    let there : c.args.s < sphere_count c.self.inside.scene.now = rw same c.requires in
    omega (arith, table_length c.self.inside.scene.now c.self.inside.entries.items c.self.invariant.spheres)

pub returns-clause-value : goal.returns-clause-value
returns-clause-value c =
    let same : c.self.inside.scene.now ≡ c.args.self.now = c.self.view_is in
    let there : c.args.s < sphere_count c.self.inside.scene.now = rw same c.requires in
    c.index.ensures
    ∙ table_entry c.self.inside.scene.now c.self.inside.entries.items c.args.s c.index.result.now c.self.invariant.spheres there
    ∙ ap (λ s. table_entry_of s (sphere_at s c.args.s)) same

pub returns-clause-sound : goal.returns-clause-sound
returns-clause-sound c =
    let same : c.self.inside.scene.now ≡ c.args.self.now = c.self.view_is in
    let there : c.args.s < sphere_count c.self.inside.scene.now = rw same c.requires in
    subst (λ s. IsSphere s (sphere_at s c.args.s)) same (sphere_at-sound c.self.inside.scene.now c.args.s c.self.invariant.spheres.sound there)
