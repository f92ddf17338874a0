use Rattle.std.proofs.Common.{◌≡◌, ◌≤◌, sym, ap, ◌∙◌, arith, subst, length, Some}
use Rattle.std.specs.Prelude.{slice_get}
use Rattle.dem_model.specs.SceneValue.{SceneValue}
use Rattle.dem_model.specs.Sound.{IsSound}
use Rattle.dem_model.specs.Spheres.{spheres_from}
use Rattle.dem_shape.proofs.TableFacts.{table_more, table_all, clump_template}
use Rattle.dem_shape.proofs.shapes.Shapes.new.Goals as goal

pub loop-k-init : goal.loop-k-init
unfolding spheres_from
loop-k-init c = c.new-entries.ensures.items

pub add_clump-requires-clause-template : goal.add_clump-requires-clause-template
add_clump-requires-clause-template c =
    let at : slice_get c.args.scene.now.clumps c.loop-k.k ≡ Some c.get.result.now =
    ap (λ (s : SceneValue). slice_get s.clumps c.loop-k.k) (sym c.scene.view_is) ∙ c.get.ensures in
    clump_template c.args.scene.now c.loop-k.k c.get.result.now (subst IsSound c.scene.view_is c.scene.invariant) at

pub loop-k-preserved : goal.loop-k-preserved
loop-k-preserved c =
    let at : slice_get c.args.scene.now.clumps c.loop-k.k ≡ Some c.get.result.now =
    ap (λ (s : SceneValue). slice_get s.clumps c.loop-k.k) (sym c.scene.view_is) ∙ c.get.ensures in
    table_more c.args.scene.now c.loop-k.k c.get.result.now _ _ at c.loop-k.invariant c.in_ok-add_clump.ensures

pub invariant_of-result : goal.invariant_of-result
invariant_of-result c =
    let past : length c.args.scene.now.clumps ≤ c.loop-k.k =
    subst (λ (s : SceneValue). length s.clumps ≤ c.loop-k.k) c.scene.view_is (omega (arith, c.len-k-end.ensures, c.loop-k-test.false)) in
    record { spheres = table_all c.args.scene.now c.loop-k.k c.loop-k.entries.items (subst IsSound c.scene.view_is c.scene.invariant) past c.loop-k.invariant; walls = c.in_ok-normals.ensures }
