use Rattle.std.proofs.Common.{◌≡◌, sym, ap, ◌∙◌, Some}
use Rattle.std.specs.Prelude.{slice_get}
use Rattle.dem_model.specs.SceneValue.{SceneValue}
use Rattle.dem_model.specs.Families.{family_of}
use Rattle.dem_shape.specs.Offs.{offs_of}
use Rattle.dem_shape.proofs.FamilyFacts.{family_of-at}
use Rattle.dem_shape.proofs.families.Kin.new.Goals as goal

pub returns : goal.returns
returns c =
    let at : slice_get c.args.scene.now.clumps c.args.clump ≡ Some c.get.result.now =
    ap (λ (s : SceneValue). slice_get s.clumps c.args.clump) (sym c.scene.view_is) ∙ c.get.ensures in
    let family : c.get.result.now.family ≡ family_of c.args.scene.now c.args.clump = sym (family_of-at c.args.scene.now c.args.clump c.get.result.now at) in
    record {
      family = family;
      offs = c.offs.ensures ∙ ap (λ (s : SceneValue). offs_of s.off c.get.result.now.family) c.scene.view_is ∙ ap (offs_of c.args.scene.now.off) family;
    }
