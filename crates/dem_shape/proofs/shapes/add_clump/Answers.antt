use Rattle.std.proofs.Common.{◌≡◌, ◌++◌, sym, ap, ◌∙◌, map, Some}
use Rattle.std.specs.Prelude.{slice_get}
use Rattle.std.proofs.lemmas.List.{take_all}
use Rattle.dem_model.specs.SceneValue.{SceneValue}
use Rattle.dem_model.specs.Spheres.{sphere_of}
use Rattle.dem_shape.specs.Table.{table_entry_of}
use Rattle.dem_shape.proofs.TableFacts.{spheres_of_template}
use Rattle.dem_shape.proofs.shapes.add_clump.Goals as goal

pub returns : goal.returns
returns c =
    let at : slice_get c.args.scene.now.templates c.args.t ≡ Some c.get.result.now =
    ap (λ (s : SceneValue). slice_get s.templates c.args.t) (sym c.scene.view_is) ∙ c.get.ensures in
    c.loop-ball.invariant
    ∙ ap (λ bs. c.args.entries.now.items ++ map (table_entry_of c.args.scene.now) (map (sphere_of c.args.clump) bs)) (take_all _ _ c.loop-ball-test.false ∙ c.as_slice-ball-items.ensures)
    ∙ ap (λ xs. c.args.entries.now.items ++ map (table_entry_of c.args.scene.now) xs) (sym (spheres_of_template c.args.scene.now c.args.clump c.args.t c.get.result.now at))
